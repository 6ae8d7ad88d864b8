-- What is regrouped is undone, what is undone is regrouped, and every octet is kept. Assumes nothing.
use Rattle.std.specs.Prelude.{flat_map, IsPermutation}
use Rattle.std.proofs.lemmas.List.{get_or-map, get_or_at, length-append, length-map, length-drop, map-append, nil_from_length}
use Rattle.std.proofs.lemmas.List.Concat.{flat_map-append}
use Rattle.std.proofs.lemmas.List.Folds.{flat_map-map}
use Prim.Native.Nat.{ℕ, zero, suc, ◌+◌, ◌*◌, ◌<◌}
use native.Mathlib.Nat.{mul-zero, mul-suc}
use native.Mathlib.Omega.{arith}
use mathlib.Core.Path.{◌∙◌, ◌≡◌, ap, ap₂, refl, subst, sym}
use mathlib.Core.Bool.{Bool, true, false}
use mathlib.Core.List.{◌∷◌, List, Memᴰ, [], map, ◌++◌, append_assoc, append-nil}
use lib.Dec.{eqb, ltb}
use lib.ListN.{length, get_or, drop, get_or-append}
use lib.Seq.{get_or-append-add}
use Rattle.octets.specs.Lists.{all, cons_if, filter}
use Rattle.octets.proofs.Lists.{Perm, p_nil, p_skip, p_trans, p_of, length_perm, all_at, all_by, filter_mem, map_mem, true_not_false, both, eqb_of, left, right, eqb_eq, eqb_self, length_filter_of_map}
use Rattle.events.specs.Records.{body_length, record_length}
use Rattle.log_archives.specs.Regrouping.{listed_kinds, kind_of, body_of, bodies_of, column, columns, grouped_bodies}
use Rattle.log_archives.specs.Undoing.{listed, well_formed, count_of, octets_of, start_of, every_from, undone_record, undone_from, undone_records}
use Rattle.log_archives.proofs.Lists.{ascending, cut, filter_append, filter_whole, filter_below, p_behind, p_across, permuted, flat_map_flat_map, flat_map_perm, flat_map_perms, by_number}

-- ---- octets read from a place on

every_behind : (front os : List ℕ) (place step n : ℕ) → every_from (length front + place) step n (front ++ os) ≡ every_from place step n os
unfolding every_from
every_behind front os place step zero = refl
every_behind front os place step (suc n) =
    let on : (length front + place) + step ≡ length front + (place + step) = omega arith in
    ap₂ (λ (o : ℕ) (later : List ℕ). o ∷ later) (get_or-append-add front os place 0)
    (ap (λ (p : ℕ). every_from p step n (front ++ os)) on ∙ every_behind front os (place + step) step n)

all_octets : (os : List ℕ) → every_from 0 1 (length os) os ≡ os
unfolding every_from
all_octets [] = refl
all_octets (o ∷ os) = ap (λ (later : List ℕ). o ∷ later) (every_behind (o ∷ []) os 0 1 (length os) ∙ all_octets os)

length_every : (place step n : ℕ) (os : List ℕ) → length (every_from place step n os) ≡ n
unfolding every_from
length_every place step zero os = refl
length_every place step (suc n) os = ap suc (length_every (place + step) step n os)

-- so many octets and then so many more
every_more : (place m n : ℕ) (os : List ℕ) → every_from place 1 (m + n) os ≡ every_from place 1 m os ++ every_from (place + m) 1 n os
unfolding every_from
every_more place zero n os =
    let a : zero + n ≡ n = omega arith in
    let b : place ≡ place + zero = omega arith in
    ap₂ (λ (k p : ℕ). every_from p 1 k os) a b
every_more place (suc m) n os =
    let a : suc m + n ≡ suc (m + n) = omega arith in
    let b : (place + 1) + m ≡ place + suc m = omega arith in
    ap (λ (k : ℕ). every_from place 1 k os) a
    ∙ ap (λ (later : List ℕ). get_or os place 0 ∷ later) (every_more (place + 1) m n os ∙ ap (λ (p : ℕ). every_from (place + 1) 1 m os ++ every_from p 1 n os) b)

-- ---- the columns of bodies

length_columns : (place n : ℕ) (bodies : List (List ℕ)) → length (columns place n bodies) ≡ length bodies * n
unfolding columns
length_columns place zero bodies = sym (mul-zero (length bodies))
length_columns place (suc n) bodies =
    omega (
      arith,
      length-append (column place bodies) (columns (suc place) n bodies),
      length-map bodies (λ (b : List ℕ). get_or b place 0),
      length_columns (suc place) n bodies,
      mul-suc (length bodies) n,
    )

-- what stands in the columns at one place is the body that is there
body_in_columns : (bodies : List (List ℕ)) (j place n : ℕ) (later : List ℕ) → j < length bodies →
    every_from j (length bodies) n (columns place n bodies ++ later) ≡ every_from place 1 n (get_or bodies j [])
unfolding columns every_from
body_in_columns bodies j place zero later h = refl
body_in_columns bodies j place (suc n) later h =
    let first = column place bodies in
    let rest = columns (suc place) n bodies ++ later in
    let m = length bodies in
    let long : length first ≡ m = length-map bodies (λ (b : List ℕ). get_or b place 0) in
    let on : j + m ≡ length first + j = omega arith in
    let next : suc place ≡ place + 1 = omega arith in
    ap (λ (os : List ℕ). get_or os j 0 ∷ every_from (j + m) m n os) (append_assoc first (columns (suc place) n bodies) later)
    ∙ ap₂ (λ (o : ℕ) (behind : List ℕ). o ∷ behind)
    (get_or-append first rest 0 j (omega arith) ∙ get_or-map (λ (b : List ℕ). get_or b place 0) bodies j [] 0 h)
    (ap (λ (p : ℕ). every_from p m n (first ++ rest)) on ∙ every_behind first rest j m n ∙ body_in_columns bodies j (suc place) n later h
    ∙ ap (λ (p : ℕ). every_from p 1 n (get_or bodies j [])) next)

-- ---- a record

pub record Formed (r : List ℕ) : Type 0 where
  pub is_listed : listed (kind_of r) ≡ true
  pub length_of_body : length (body_of r) ≡ body_length (kind_of r)
  pub is : kind_of r ∷ body_of r ≡ r

pub formed : (r : List ℕ) → well_formed r ≡ true → Formed r
formed [] h = absurd (true_not_false h refl)
formed (k ∷ b) h =
    let e = eqb_eq _ _ (right (listed k) (eqb (length (k ∷ b)) (record_length k)) h) in
    record { is_listed = left (listed k) (eqb (length (k ∷ b)) (record_length k)) h; length_of_body = omega arith; is = refl }

-- ---- the bodies of each kind

-- the columns of each of some kinds
abbrev pub grouped_of : List (List ℕ) → List ℕ → List ℕ
grouped_of rs kinds = flat_map (λ (kind : ℕ). columns 0 (body_length kind) (bodies_of kind rs)) kinds

count_bodies : (kind : ℕ) (rs : List (List ℕ)) → count_of kind (map kind_of rs) ≡ length (bodies_of kind rs)
count_bodies kind rs =
    length_filter_of_map (λ (k : ℕ). eqb k kind) (λ (r : List ℕ). eqb (kind_of r) kind) kind_of rs (λ r. refl)
    ∙ sym (length-map (filter (λ (r : List ℕ). eqb (kind_of r) kind) rs) body_of)

pub length_grouped : (rs : List (List ℕ)) (kinds : List ℕ) → length (grouped_of rs kinds) ≡ octets_of kinds (map kind_of rs)
unfolding octets_of
length_grouped rs [] = refl
length_grouped rs (kind ∷ kinds) =
    length-append (columns 0 (body_length kind) (bodies_of kind rs)) (grouped_of rs kinds)
    ∙ ap₂ ◌+◌ (length_columns 0 (body_length kind) (bodies_of kind rs) ∙ ap (λ (n : ℕ). n * body_length kind) (sym (count_bodies kind rs))) (length_grouped rs kinds)

bodies_append : (kind : ℕ) (rs more : List (List ℕ)) → bodies_of kind (rs ++ more) ≡ bodies_of kind rs ++ bodies_of kind more
bodies_append kind rs more =
    let p = λ (r : List ℕ). eqb (kind_of r) kind in
    ap (map body_of) (filter_append p rs more) ∙ map-append body_of (filter p rs) (filter p more)

-- the bodies of a record's kind have its body behind those of the records before it
own_body : (r : List ℕ) (before later : List (List ℕ)) → bodies_of (kind_of r) (before ++ (r ∷ later)) ≡ bodies_of (kind_of r) before ++ (body_of r ∷ bodies_of (kind_of r) later)
own_body r before later =
    let p = λ (q : List ℕ). eqb (kind_of q) (kind_of r) in
    bodies_append (kind_of r) before (r ∷ later)
    ∙ ap (λ (b : Bool). bodies_of (kind_of r) before ++ map body_of (cons_if b r (filter p later))) (eqb_self (kind_of r))

-- the kinds before a listed one and those behind it
record Placed (kind : ℕ) : Type 0 where
  lower : List ℕ
  higher : List ℕ
  is : listed_kinds ≡ lower ++ (kind ∷ higher)

placed : (kind : ℕ) → listed kind ≡ true → Placed kind
placed kind h =
    let c = cut (eqb kind) listed_kinds h in
    let same = ap (λ (k : ℕ). c.before ++ (k ∷ c.behind)) (sym (eqb_eq kind c.here c.passes)) in
    record { lower = c.before; higher = c.behind; is = c.is ∙ same }

-- the octets of a kind begin behind those of the kinds before it
start_behind : (kind : ℕ) (ks lower higher : List ℕ) → listed_kinds ≡ lower ++ (kind ∷ higher) → start_of kind ks ≡ octets_of lower ks
start_behind kind ks lower higher e =
    ap (λ (l : List ℕ). octets_of l ks)
    (ap (filter (λ (k : ℕ). ltb k kind)) e ∙ filter_below lower kind higher (subst (λ (l : List ℕ). ascending l ≡ true) e refl))

-- ---- undoing what is regrouped

-- the octets that undoing reads for a record are its body
read_body : (r : List ℕ) (before later : List (List ℕ)) → Formed r → (rs : List (List ℕ)) → rs ≡ before ++ (r ∷ later) →
    every_from (start_of (kind_of r) (map kind_of rs) + count_of (kind_of r) (map kind_of before)) (count_of (kind_of r) (map kind_of rs)) (body_length (kind_of r)) (grouped_bodies rs) ≡ body_of r
unfolding grouped_bodies
read_body r before later f rs e =
    let k = kind_of r in
    let n = body_length k in
    let at = placed k f.is_listed in
    let bodies = bodies_of k rs in
    let front = grouped_of rs at.lower in
    let behind = grouped_of rs at.higher in
    let j = length (bodies_of k before) in
    let own : bodies ≡ bodies_of k before ++ (body_of r ∷ bodies_of k later) = ap (bodies_of k) e ∙ own_body r before later in
    let start : start_of k (map kind_of rs) ≡ length front = start_behind k (map kind_of rs) at.lower at.higher at.is ∙ sym (length_grouped rs at.lower) in
    let os : grouped_bodies rs ≡ front ++ (columns 0 n bodies ++ behind) = ap (grouped_of rs) at.is ∙ flat_map-append _ at.lower (k ∷ at.higher) in
    let within : j < length bodies = omega (arith, ap length own, length-append (bodies_of k before) (body_of r ∷ bodies_of k later)) in
    rw (start, os, count_bodies k before, count_bodies k rs)
    (every_behind front (columns 0 n bodies ++ behind) j (length bodies) n
    ∙ body_in_columns bodies j 0 n behind within
    ∙ ap (λ (l : List (List ℕ)). every_from 0 1 n (get_or l j [])) own
    ∙ ap (every_from 0 1 n) (get_or_at (bodies_of k before) (body_of r) (bodies_of k later) [] j refl)
    ∙ ap (λ (m : ℕ). every_from 0 1 m (body_of r)) (sym f.length_of_body)
    ∙ all_octets (body_of r))

restored_from : (rs before later : List (List ℕ)) → rs ≡ before ++ later → all well_formed later ≡ true →
    undone_from (map kind_of rs) (grouped_bodies rs) (map kind_of before) (map kind_of later) ≡ later
unfolding undone_from
restored_from rs before [] e h = refl
restored_from rs before (r ∷ later) e h =
    let f = formed r (left (well_formed r) (all well_formed later) h) in
    let rest = restored_from rs (before ++ (r ∷ [])) later (e ∙ sym (append_assoc before (r ∷ []) later)) (right (well_formed r) (all well_formed later) h) in
    ap₂ (λ (q : List ℕ) (qs : List (List ℕ)). q ∷ qs)
    (ap (λ (b : List ℕ). kind_of r ∷ b) (read_body r before later f rs e) ∙ f.is)
    (ap (λ (seen : List ℕ). undone_from (map kind_of rs) (grouped_bodies rs) seen (map kind_of later)) (sym (map-append kind_of before (r ∷ []))) ∙ rest)

-- undoing gives the records back
pub restored_records : (rs : List (List ℕ)) → all well_formed rs ≡ true → undone_records (map kind_of rs) (grouped_bodies rs) ≡ rs
restored_records rs h = restored_from rs [] rs refl h

-- ---- regrouping what is undone

-- so many bodies, from octets that begin side by side
unfoldable bodies_from : ℕ → ℕ → ℕ → ℕ → List ℕ → List (List ℕ)
bodies_from place zero step n os = []
bodies_from place (suc m) step n os = every_from place step n os ∷ bodies_from (place + 1) m step n os

first_column : (place m step n : ℕ) (os : List ℕ) → column 0 (bodies_from place m step (suc n) os) ≡ every_from place 1 m os
unfolding bodies_from every_from
first_column place zero step n os = refl
first_column place (suc m) step n os = ap (λ (later : List ℕ). get_or os place 0 ∷ later) (first_column (place + 1) m step n os)

behind_first : (place m step n : ℕ) (os : List ℕ) → map (drop 1) (bodies_from place m step (suc n) os) ≡ bodies_from (place + step) m step n os
unfolding bodies_from every_from
behind_first place zero step n os = refl
behind_first place (suc m) step n os =
    let on : (place + 1) + step ≡ (place + step) + 1 = omega arith in
    ap (λ (later : List (List ℕ)). every_from (place + step) step n os ∷ later) (behind_first (place + 1) m step n os ∙ ap (λ (p : ℕ). bodies_from p m step n os) on)

-- the later columns are those of the bodies without their first octets
later_column : (place : ℕ) (bodies : List (List ℕ)) → column (suc place) bodies ≡ column place (map (drop 1) bodies)
later_column place [] = refl
later_column place ([] ∷ bodies) = ap (λ (later : List ℕ). 0 ∷ later) (later_column place bodies)
later_column place ((o ∷ b) ∷ bodies) = ap (λ (later : List ℕ). get_or b place 0 ∷ later) (later_column place bodies)

later_columns : (place n : ℕ) (bodies : List (List ℕ)) → columns (suc place) n bodies ≡ columns place n (map (drop 1) bodies)
unfolding columns
later_columns place zero bodies = refl
later_columns place (suc n) bodies = ap₂ ◌++◌ (later_column place bodies) (later_columns (suc place) n bodies)

columns_of_bodies : (n m place : ℕ) (os : List ℕ) → columns 0 n (bodies_from place m m n os) ≡ every_from place 1 (m * n) os
unfolding columns every_from
columns_of_bodies zero m place os = ap (λ (k : ℕ). every_from place 1 k os) (sym (mul-zero m))
columns_of_bodies (suc n) m place os =
    let long : m + m * n ≡ m * suc n = omega (arith, mul-suc m n) in
    ap₂ ◌++◌ (first_column place m m n os)
    (later_columns 0 n (bodies_from place m m (suc n) os) ∙ ap (columns 0 n) (behind_first place m m n os) ∙ columns_of_bodies n m (place + m) os)
    ∙ sym (every_more place m (m * n) os)
    ∙ ap (λ (k : ℕ). every_from place 1 k os) long

-- the bodies of a kind among the records that are undone
undone_bodies : (ks os : List ℕ) (kind : ℕ) (seen later : List ℕ) →
    bodies_of kind (undone_from ks os seen later) ≡ bodies_from (start_of kind ks + count_of kind seen) (count_of kind later) (count_of kind ks) (body_length kind) os
unfolding undone_from bodies_from
undone_bodies ks os kind seen [] = refl
undone_bodies ks os kind seen (k ∷ later) = go (eqb k kind) refl (filter_append (λ (j : ℕ). eqb j kind) seen (k ∷ [])) (undone_bodies ks os kind (seen ++ (k ∷ [])) later)
  where
    start : ℕ
    start = start_of kind ks

    rest : List (List ℕ)
    rest = undone_from ks os (seen ++ (k ∷ [])) later

    go : (b : Bool) → eqb k kind ≡ b → filter (λ (j : ℕ). eqb j kind) (seen ++ (k ∷ [])) ≡ filter (λ (j : ℕ). eqb j kind) seen ++ cons_if b k [] →
        bodies_of kind rest ≡ bodies_from (start + count_of kind (seen ++ (k ∷ []))) (count_of kind later) (count_of kind ks) (body_length kind) os →
        map body_of (cons_if b (undone_record ks os k (count_of k seen)) (filter (λ (r : List ℕ). eqb (kind_of r) kind) rest))
        ≡ bodies_from (start + count_of kind seen) (length (cons_if b k (filter (λ (j : ℕ). eqb j kind) later))) (count_of kind ks) (body_length kind) os
    go true e f h =
        let more : start + count_of kind (seen ++ (k ∷ [])) ≡ (start + count_of kind seen) + 1 = omega (arith, ap length f, length-append (filter (λ (j : ℕ). eqb j kind) seen) (k ∷ [])) in
        ap₂ (λ (b : List ℕ) (bs : List (List ℕ)). b ∷ bs)
        (ap (λ (j : ℕ). every_from (start_of j ks + count_of j seen) (count_of j ks) (body_length j) os) (eqb_eq k kind e))
        (h ∙ ap (λ (p : ℕ). bodies_from p (count_of kind later) (count_of kind ks) (body_length kind) os) more)
    go false e f h =
        let same : count_of kind (seen ++ (k ∷ [])) ≡ count_of kind seen = ap length (f ∙ append-nil (filter (λ (j : ℕ). eqb j kind) seen)) in
        h ∙ ap (λ (c : ℕ). bodies_from (start + c) (count_of kind later) (count_of kind ks) (body_length kind) os) same

-- the columns of the undone records' bodies, kind by kind
undone_columns : (ks os : List ℕ) (kind : ℕ) (lower higher : List ℕ) → listed_kinds ≡ lower ++ (kind ∷ higher) →
    columns 0 (body_length kind) (bodies_of kind (undone_records ks os)) ≡ every_from (octets_of lower ks) 1 (count_of kind ks * body_length kind) os
undone_columns ks os kind lower higher e =
    let start : start_of kind ks + 0 ≡ octets_of lower ks = omega (arith, start_behind kind ks lower higher e) in
    ap (columns 0 (body_length kind)) (undone_bodies ks os kind [] ks)
    ∙ columns_of_bodies (body_length kind) (count_of kind ks) (start_of kind ks + 0) os
    ∙ ap (λ (p : ℕ). every_from p 1 (count_of kind ks * body_length kind) os) start

octets_more : (lower : List ℕ) (kind : ℕ) (ks : List ℕ) → octets_of (lower ++ (kind ∷ [])) ks ≡ octets_of lower ks + count_of kind ks * body_length kind
unfolding octets_of
octets_more [] kind ks = omega arith
octets_more (k ∷ lower) kind ks = omega (arith, octets_more lower kind ks)

regrouped_from : (ks os lower kinds : List ℕ) → listed_kinds ≡ lower ++ kinds → grouped_of (undone_records ks os) kinds ≡ every_from (octets_of lower ks) 1 (octets_of kinds ks) os
unfolding octets_of every_from
regrouped_from ks os lower [] e = refl
regrouped_from ks os lower (kind ∷ kinds) e =
    let n = count_of kind ks * body_length kind in
    ap₂ ◌++◌ (undone_columns ks os kind lower kinds e)
    (regrouped_from ks os (lower ++ (kind ∷ [])) kinds (e ∙ sym (append_assoc lower (kind ∷ []) kinds)) ∙ ap (λ (p : ℕ). every_from p 1 (octets_of kinds ks) os) (octets_more lower kind ks))
    ∙ sym (every_more (octets_of lower ks) n (octets_of kinds ks) os)

undone_kinds : (ks os seen later : List ℕ) → map kind_of (undone_from ks os seen later) ≡ later
unfolding undone_from
undone_kinds ks os seen [] = refl
undone_kinds ks os seen (k ∷ later) = ap (λ (l : List ℕ). k ∷ l) (undone_kinds ks os (seen ++ (k ∷ [])) later)

undone_formed : (ks os seen later : List ℕ) → all listed later ≡ true → all well_formed (undone_from ks os seen later) ≡ true
unfolding undone_from
undone_formed ks os seen [] h = refl
undone_formed ks os seen (k ∷ later) h =
    let r = undone_record ks os k (count_of k seen) in
    let long : length r ≡ record_length k = omega (arith, length_every (start_of k ks + count_of k seen) (count_of k ks) (body_length k) os) in
    both (both (left (listed k) (all listed later) h) (eqb_of (length r) (record_length k) long)) (undone_formed ks os (seen ++ (k ∷ [])) later (right (listed k) (all listed later) h))

-- regrouping what is undone gives the kinds and the octets back, and what is undone are records
pub record Regrouped (ks os : List ℕ) (rs : List (List ℕ)) : Type 0 where
  pub kinds : map kind_of rs ≡ ks
  pub bodies : grouped_bodies rs ≡ os
  pub records : all well_formed rs ≡ true

pub regrouped_records : (ks os : List ℕ) → all listed ks ≡ true → length os ≡ octets_of listed_kinds ks → Regrouped ks os (undone_records ks os)
unfolding grouped_bodies octets_of
regrouped_records ks os h e = record {
  kinds = undone_kinds ks os [] ks;
  bodies = regrouped_from ks os [] listed_kinds refl ∙ ap (λ (n : ℕ). every_from 0 1 n os) (sym e) ∙ all_octets os;
  records = undone_formed ks os [] ks h;
}

-- ---- every octet is kept

-- what has an octet is that octet and what is behind it
first_and_behind : (n : ℕ) (b : List ℕ) → length b ≡ suc n → get_or b 0 0 ∷ drop 1 b ≡ b
first_and_behind n [] e = absurd (omega arith)
first_and_behind n (o ∷ b) e = refl

-- the first octets of some lists of octets in front of what is behind them
fronts : (bs : List (List ℕ)) → ((b : List ℕ) → Memᴰ b bs → get_or b 0 0 ∷ drop 1 b ≡ b) → Perm (flat_map (λ (b : List ℕ). b) bs) (column 0 bs ++ flat_map (drop 1) bs)
fronts [] f = p_nil
fronts (b ∷ bs) f =
    p_trans (p_of (ap (λ (c : List ℕ). c ++ flat_map (λ (b : List ℕ). b) bs) (sym (f b (Memᴰ.head refl)))))
    (p_skip (p_trans (p_behind (drop 1 b) (fronts bs (λ c m. f c (Memᴰ.tail m)))) (p_across (drop 1 b) (column 0 bs) (flat_map (drop 1) bs))))

-- lists of no octets have none
no_octets : (bs : List (List ℕ)) → ((b : List ℕ) → Memᴰ b bs → length b ≡ 0) → flat_map (λ (b : List ℕ). b) bs ≡ []
no_octets [] f = refl
no_octets (b ∷ bs) f = ap₂ ◌++◌ (nil_from_length b (f b (Memᴰ.head refl))) (no_octets bs (λ c m. f c (Memᴰ.tail m)))

-- the columns of bodies have their octets
columns_kept : (n : ℕ) (bodies : List (List ℕ)) → ((b : List ℕ) → Memᴰ b bodies → length b ≡ n) → Perm (flat_map (λ (b : List ℕ). b) bodies) (columns 0 n bodies)
unfolding columns
columns_kept zero bodies f = p_of (no_octets bodies f)
columns_kept (suc n) bodies f =
    p_trans (fronts bodies (λ b m. first_and_behind n b (f b m)))
    (p_behind (column 0 bodies)
    (p_trans (p_of (sym (flat_map-map (λ (b : List ℕ). b) (drop 1) bodies)))
    (p_trans (columns_kept n (map (drop 1) bodies) shorter) (p_of (sym (later_columns 0 n bodies))))))
  where
    shorter : (b : List ℕ) → Memᴰ b (map (drop 1) bodies) → length b ≡ n
    shorter b m =
        let at = map_mem (drop 1) bodies m in
        omega (arith, ap length at.2, length-drop 1 at.0, f at.0 at.1)

-- the records of a kind
abbrev of_kind : List (List ℕ) → ℕ → List (List ℕ)
of_kind rs kind = filter (λ (r : List ℕ). eqb (kind_of r) kind) rs

module _ (rs : List (List ℕ)) (h : all well_formed rs ≡ true) where
  record_in : (r : List ℕ) → Memᴰ r rs → Formed r
  record_in r m = formed r (all_at well_formed m h)

  pub bodies_long : (kind : ℕ) (b : List ℕ) → Memᴰ b (bodies_of kind rs) → length b ≡ body_length kind
  bodies_long kind b m =
      let at = map_mem body_of (of_kind rs kind) m in
      let r = filter_mem (λ (r : List ℕ). eqb (kind_of r) kind) rs at.1 in
      ap length at.2 ∙ (record_in at.0 r.0).length_of_body ∙ ap body_length (eqb_eq (kind_of at.0) kind r.1)

  -- the records kind by kind
  by_kind : Perm rs (flat_map (of_kind rs) listed_kinds)
  by_kind =
      let p = λ (r : List ℕ). listed (kind_of r) in
      p_trans (p_of (sym (filter_whole p rs (all_by p rs (λ r m. (record_in r m).is_listed))))) (by_number kind_of rs listed_kinds refl)

  kind_kept : (kind : ℕ) → Perm (flat_map body_of (of_kind rs kind)) (columns 0 (body_length kind) (bodies_of kind rs))
  kind_kept kind =
      p_trans (p_of (sym (flat_map-map (λ (b : List ℕ). b) body_of (of_kind rs kind)))) (columns_kept (body_length kind) (bodies_of kind rs) (bodies_long kind))

  bodies_kept : Perm (flat_map body_of rs) (grouped_of rs listed_kinds)
  bodies_kept =
      p_trans (flat_map_perm body_of by_kind)
      (p_trans (p_of (flat_map_flat_map body_of (of_kind rs) listed_kinds))
      (flat_map_perms (λ (kind : ℕ). flat_map body_of (of_kind rs kind)) (λ (kind : ℕ). columns 0 (body_length kind) (bodies_of kind rs)) kind_kept listed_kinds))

  kept : Perm (flat_map (λ (r : List ℕ). r) rs) (map kind_of rs ++ grouped_bodies rs)
  unfolding grouped_bodies
  kept = p_trans (fronts rs (λ r m. (record_in r m).is)) (p_behind (map kind_of rs) bodies_kept)

  -- the kinds and the grouped bodies are the octets of the records, only moved
  pub octets_kept : IsPermutation (flat_map (λ (r : List ℕ). r) rs) (map kind_of rs ++ grouped_bodies rs)
  octets_kept = permuted kept

  pub archive_length : length (map kind_of rs ++ grouped_bodies rs) ≡ length (flat_map (λ (r : List ℕ). r) rs)
  archive_length = sym (length_perm kept)
