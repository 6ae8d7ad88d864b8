-- Laws of tables by kind, and of the records that are read by them. Assumes nothing.
use Prim.Native.Nat.{ℕ, zero, suc, ◌+◌, ◌-◌, ◌*◌, ◌<◌, ◌≤◌}
use native.Mathlib.Nat.{mul-suc}
use native.Mathlib.Omega.{arith}
use native.Mathlib.Decide.{ℕ_discrete}
use mathlib.Core.Path.{◌∙◌, ◌≡◌, ap, ap₂, refl, sym}
use mathlib.Core.Bool.{Bool, true, false, ◌&&◌, cond}
use mathlib.Core.List.{◌∷◌, List, [], ◌++◌}
use lib.Dec.{eqb, leb}
use lib.ListN.{length, get_or, set, drop}
use borrow.Author.Tests.{leb-true}
use denote.Ref.{Bor}
use Rattle.std.proofs.Common.{get_or-set_same, get_or-set_other, ◌≢◌}
use Rattle.std.proofs.lemmas.List.{length-append, length-set}
use Rattle.std.specs.Prelude.{None, Some}
use Rattle.octets.specs.Lists.{all, cons_if, filter}
use Rattle.octets.specs.Tests.{bit}
use Rattle.octets.proofs.Lists.{true_not_false, left, right, eqb_eq, eqb_of, all_at, any_has}
use Rattle.octets.proofs.Loops.{Step, Past}
use Rattle.events.specs.declared.Refusal.{Refusal}
use Rattle.events.specs.EventRecords.{request}
use Rattle.events.specs.Records.{body_length, record_length}
use Rattle.log_archives.specs.Regrouping.{listed_kinds}
use Rattle.log_archives.specs.Undoing.{listed, count_of, octets_of, start_of, every_from, undone_from}
use Rattle.log_archives.specs.Judging.{first_unknown, refusal_in, first_bad}
use Rattle.log_archives.specs.declared.unpacking.Undone.{Undone}
use Rattle.log_archives.specs.Code.Tables.{Counted, Started, records_by, records_in, InReach, Begun, FirstRead}
use Rattle.log_archives.proofs.Lists.{filter_append}

-- ---- kinds

-- a listed kind has a place in the tables
listed_small : (k : ℕ) → listed k ≡ true → k < 10
listed_small k h =
    let a = any_has (eqb k) listed_kinds h in
    let b = all_at (λ (x : ℕ). leb x 9) a.1 refl in
    omega (arith, leb-true a.0 9 b, eqb_eq k a.0 a.2)

-- ---- a table of which one number is raised

length_cons_if : {A : Type 0} (b : Bool) (x : A) (l : List A) → length (cons_if b x l) ≡ bit b + length l
length_cons_if true x l = omega arith
length_cons_if false x l = omega arith

count_first : (k x : ℕ) (ks : List ℕ) → count_of k (x ∷ ks) ≡ bit (eqb x k) + count_of k ks
count_first k x ks = length_cons_if (eqb x k) x (filter (λ (j : ℕ). eqb j k) ks)

count_last : (k x : ℕ) (ks : List ℕ) → count_of k (ks ++ (x ∷ [])) ≡ count_of k ks + bit (eqb x k)
count_last k x ks =
    let p = λ (j : ℕ). eqb j k in
    omega (arith, ap length (filter_append p ks (x ∷ [])), length-append (filter p ks) (filter p (x ∷ [])), count_first k x [])

count_small : (k : ℕ) (ks : List ℕ) → count_of k ks ≤ length ks
count_small k [] = omega arith
count_small k (x ∷ ks) = go (eqb x k) (count_small k ks)
  where
    go : (b : Bool) → count_of k ks ≤ length ks → length (cons_if b x (filter (λ (j : ℕ). eqb j k) ks)) ≤ length (x ∷ ks)
    go true e = omega arith
    go false e = omega arith

raised : (l : List ℕ) (x k : ℕ) → x < length l → get_or (set l x (get_or l x 0 + 1)) k 0 ≡ get_or l k 0 + bit (eqb x k)
raised l x k h = go (eqb x k) refl
  where
    go : (b : Bool) → eqb x k ≡ b → get_or (set l x (get_or l x 0 + 1)) k 0 ≡ get_or l k 0 + bit b
    go true e = ap (λ (j : ℕ). get_or (set l x (get_or l x 0 + 1)) j 0) (sym (eqb_eq x k e)) ∙ get_or-set_same l x (get_or l x 0 + 1) 0 h ∙ ap (λ (j : ℕ). get_or l j 0 + 1) (eqb_eq x k e)
    go false e =
        let ne : k ≢ x = λ (q : k ≡ x). true_not_false (eqb_of x k (sym q)) e in
        let z : get_or l k 0 ≡ get_or l k 0 + 0 = omega arith in
        get_or-set_other l x k (get_or l x 0 + 1) 0 ne ∙ z

-- ---- where the bodies of a kind begin

-- what holds at each place of a table
each_place : (P : ℕ → Type 0) → P 0 → P 1 → P 2 → P 3 → P 4 → P 5 → P 6 → P 7 → P 8 → P 9 → (k : ℕ) → k < 10 → P k
each_place P a b c d e f g h i j zero l = a
each_place P a b c d e f g h i j (suc zero) l = b
each_place P a b c d e f g h i j (suc (suc zero)) l = c
each_place P a b c d e f g h i j (suc (suc (suc zero))) l = d
each_place P a b c d e f g h i j (suc (suc (suc (suc zero)))) l = e
each_place P a b c d e f g h i j (suc (suc (suc (suc (suc zero))))) l = f
each_place P a b c d e f g h i j (suc (suc (suc (suc (suc (suc zero)))))) l = g
each_place P a b c d e f g h i j (suc (suc (suc (suc (suc (suc (suc zero))))))) l = h
each_place P a b c d e f g h i j (suc (suc (suc (suc (suc (suc (suc (suc zero)))))))) l = i
each_place P a b c d e f g h i j (suc (suc (suc (suc (suc (suc (suc (suc (suc zero))))))))) l = j
each_place P a b c d e f g h i j (suc (suc (suc (suc (suc (suc (suc (suc (suc (suc k)))))))))) l = absurd (omega arith)

module _ (ks : List ℕ) where
  start_next : (k : ℕ) → k < 10 → start_of (k + 1) ks ≡ start_of k ks + count_of k ks * body_length k
  unfolding octets_of
  start_next =
      each_place (λ (k : ℕ). start_of (k + 1) ks ≡ start_of k ks + count_of k ks * body_length k)
      (omega arith) (omega arith) (omega arith) (omega arith) (omega arith) (omega arith) (omega arith) (omega arith) (omega arith) (omega arith)

  -- the bodies of a kind end before those of all end
  pub start_within : (k : ℕ) → k < 10 → start_of k ks + count_of k ks * body_length k ≤ octets_of listed_kinds ks
  unfolding octets_of
  start_within =
      each_place (λ (k : ℕ). start_of k ks + count_of k ks * body_length k ≤ octets_of listed_kinds ks)
      (omega arith) (omega arith) (omega arith) (omega arith) (omega arith) (omega arith) (omega arith) (omega arith) (omega arith) (omega arith)

  -- 234 octets in nine bodies, one of each kind
  pub all_small : octets_of listed_kinds ks ≤ 234 * length ks
  unfolding octets_of
  all_small =
      omega (
        arith,
        count_small 1 ks,
        count_small 2 ks,
        count_small 3 ks,
        count_small 4 ks,
        count_small 5 ks,
        count_small 6 ks,
        count_small 7 ks,
        count_small 8 ks,
        count_small 9 ks,
      )

-- ---- counting kinds

-- the first so many kinds are counted
pub record CountedTo (ks : List ℕ) (i : ℕ) (counts : List ℕ) : Type 0 where
  pub places : length counts ≡ 10
  pub known : all listed (drop i ks) ≡ true
  pub within : (k : ℕ) → k < 10 → get_or counts k 0 ≤ i
  pub whole : (k : ℕ) → k < 10 → get_or counts k 0 + count_of k (drop i ks) ≡ count_of k ks

bit_small : (b : Bool) → bit b ≤ 1
bit_small true = omega arith
bit_small false = omega arith

known_first : (ks : List ℕ) (i x : ℕ) → Step ks i x → all listed (drop i ks) ≡ true → (listed x ≡ true) × (all listed (drop (i + 1) ks) ≡ true)
known_first ks i x s h =
    let e : (listed x && all listed (drop (i + 1) ks)) ≡ true = ap (all listed) (sym s.split) ∙ h in
    (left (listed x) (all listed (drop (i + 1) ks)) e, right (listed x) (all listed (drop (i + 1) ks)) e)

counted_place : (ks : List ℕ) (i x : ℕ) (counts : List ℕ) → Step ks i x → CountedTo ks i counts → x < 10
counted_place ks i x counts s c = listed_small x (known_first ks i x s c.known).0

pub counted_more : (ks : List ℕ) (i x : ℕ) (counts : List ℕ) → Step ks i x → CountedTo ks i counts → CountedTo ks (i + 1) (set counts x (get_or counts x 0 + 1))
counted_more ks i x counts s c =
    let lt : x < length counts = omega (arith, counted_place ks i x counts s c, c.places) in
    record {
      places = length-set counts x (get_or counts x 0 + 1) ∙ c.places;
      known = (known_first ks i x s c.known).1;
      within = λ k h. omega (arith, raised counts x k lt, c.within k h, bit_small (eqb x k));
      whole = λ k h. omega (arith, raised counts x k lt, c.whole k h, ap (count_of k) s.split, count_first k x (drop (i + 1) ks));
    }

-- ---- where the bodies begin, kind by kind

-- those of the kinds up to this one are known
pub record StartedTo (ks : List ℕ) (n : ℕ) (starts : List ℕ) : Type 0 where
  pub places : length starts ≡ 11
  pub each : (k : ℕ) → k ≤ n → get_or starts k 0 ≡ start_of k ks

pub none_started : (ks starts : List ℕ) → starts ≡ 0 ∷ 0 ∷ 0 ∷ 0 ∷ 0 ∷ 0 ∷ 0 ∷ 0 ∷ 0 ∷ 0 ∷ 0 ∷ [] → StartedTo ks 0 starts
unfolding octets_of
none_started ks starts e = record { places = ap length e; each = each }
  where
    each : (k : ℕ) → k ≤ 0 → get_or starts k 0 ≡ start_of k ks
    each zero h = ap (λ (c : List ℕ). get_or c 0 0) e
    each (suc k) h = absurd (omega arith)

-- the octets of a kind's bodies, by its count
pub share : (ks counts : List ℕ) (k j l : ℕ) → k < 10 → j ≡ k → l ≡ record_length k → Counted ks counts → get_or counts j 0 * (l - 1) ≡ count_of k ks * body_length k
share ks counts k j l h e f c =
    let g : l - 1 ≡ body_length k = omega arith in
    ap₂ ◌*◌ (ap (λ (i : ℕ). get_or counts i 0) e ∙ c.each k h) g

pub more_started : (ks : List ℕ) (n m : ℕ) (starts : List ℕ) → n < 10 → m ≡ count_of n ks * body_length n → StartedTo ks n starts → StartedTo ks (n + 1) (set starts (n + 1) (get_or starts n 0 + m))
more_started ks n m starts h e s = record {
  places = length-set starts (n + 1) (get_or starts n 0 + m) ∙ s.places;
  each = λ k l. go k l (ℕ_discrete k (n + 1));
}
  where
    lt : n + 1 < length starts
    lt = omega (arith, s.places)

    go : (k : ℕ) → k ≤ n + 1 → Dec (k ≡ n + 1) → get_or (set starts (n + 1) (get_or starts n 0 + m)) k 0 ≡ start_of k ks
    go k l (yes q) = rw q (get_or-set_same starts (n + 1) (get_or starts n 0 + m) 0 lt ∙ omega (arith, s.each n (omega arith), start_next ks n h))
    go k l (no q) = get_or-set_other starts (n + 1) k (get_or starts n 0 + m) 0 q ∙ s.each k (omega arith)

-- ---- the records that are read by tables

-- the tables of some kinds, of which some were seen
record Reads (ks seen next step : List ℕ) : Type 0 where
  starts : (k : ℕ) → k < 10 → get_or next k 0 ≡ start_of k ks + count_of k seen
  steps : (k : ℕ) → k < 10 → get_or step k 0 ≡ count_of k ks
  places : 10 ≤ length next

next_read : (ks seen next step : List ℕ) (x : ℕ) → x < 10 → Reads ks seen next step → Reads ks (seen ++ (x ∷ [])) (set next x (get_or next x 0 + 1)) step
next_read ks seen next step x h r = record {
  starts = λ k g. let lt : x < length next = omega (arith, r.places) in omega (arith, raised next x k lt, r.starts k g, count_last k x seen);
  steps = r.steps;
  places = omega (arith, length-set next x (get_or next x 0 + 1), r.places);
}

read_by : (ks os seen next step later : List ℕ) → all listed later ≡ true → Reads ks seen next step → records_by next step os later ≡ undone_from ks os seen later
unfolding records_by undone_from
read_by ks os seen next step [] h r = refl
read_by ks os seen next step (k ∷ later) h r =
    let s = listed_small k (left (listed k) (all listed later) h) in
    ap₂ (λ (b : List ℕ) (bs : List (List ℕ)). (k ∷ b) ∷ bs)
    (ap₂ (λ (p n : ℕ). every_from p n (body_length k) os) (r.starts k s) (r.steps k s))
    (read_by ks os (seen ++ (k ∷ [])) (set next k (get_or next k 0 + 1)) step later (right (listed k) (all listed later) h) (next_read ks seen next step k s r))

-- ---- octets of a body

pub octet_first : (os : List ℕ) (place step n i : ℕ) → i < n → every_from place step (n - i) os ≡ get_or os place 0 ∷ every_from (place + step) step (n - (i + 1)) os
unfolding every_from
octet_first os place step n i h = let e : n - i ≡ suc (n - (i + 1)) = omega arith in rw e refl

pub octet_room : (most place step n i : ℕ) → i < n → place + step * (n - i) < most + step → (place < most) × ((place + step) + step * (n - (i + 1)) < most + step)
octet_room most place step n i h l =
    let e : n - i ≡ suc (n - (i + 1)) = omega arith in
    let f : step * (n - i) ≡ step * (n - (i + 1)) + step = ap (λ (m : ℕ). step * m) e ∙ omega (arith, mul-suc step (n - (i + 1))) in
    (omega arith, omega arith)

-- ---- the next record

record_first : (u : Undone) (k : ℕ) (later r : List ℕ) → u.kinds.now ≡ k ∷ later → r ≡ k ∷ every_from (get_or u.next k 0) (get_or u.step k 0) (body_length k) u.bodies.now →
    records_in u ≡ r ∷ records_by (set u.next k (get_or u.next k 0 + 1)) u.step u.bodies.now later
unfolding records_by
record_first u k later r e f = rw (e, f)

kind_first : (u : Undone) (k : ℕ) (later : List ℕ) → u.kinds.now ≡ k ∷ later → InReach u → (k < 10) × (all listed later ≡ true)
kind_first u k later e i =
    let h : (listed k && all listed later) ≡ true = ap (all listed) (sym e) ∙ i.kinds in
    (listed_small k (left (listed k) (all listed later) h), right (listed k) (all listed later) h)

pub first_read : (u : Undone) (k : ℕ) (later : Bor (List ℕ)) (r : List ℕ) → u.kinds.now ≡ k ∷ later.now → InReach u →
    r ≡ k ∷ every_from (get_or u.next k 0) (get_or u.step k 0) (body_length k) u.bodies.now →
    FirstRead u r (record { kinds = later; bodies = u.bodies; next = set u.next k (get_or u.next k 0 + 1); step = u.step })
first_read u k later r e i f =
    let s = kind_first u k later.now e i in
    let lt : k < length u.next = omega (arith, s.0, i.places) in
    record {
      records = record_first u k later.now r e f;
      in_reach = record {
        kinds = s.1;
        places = length-set u.next k (get_or u.next k 0 + 1) ∙ i.places;
        few = i.few;
        within = λ j h. omega (arith, i.within j h, raised u.next k j lt, ap (count_of j) e, count_first j k later.now);
      };
      one_less = omega (arith, ap length e);
    }

pub none_left : (u : Undone) → u.kinds.now ≡ [] → records_in u ≡ []
unfolding records_by
none_left u e = rw e

-- ---- all records are to come

pub begun : (u : Undone) (ks os : List ℕ) → u.kinds.now ≡ ks → u.bodies.now ≡ os → length ks ≤ 65540 → all listed ks ≡ true → Counted ks u.step → Started ks u.next → length u.next ≡ 11
    → length os ≡ octets_of listed_kinds ks → Begun ks os u
begun u ks os e f few h c s n agrees = record {
  kinds = e;
  bodies = f;
  agrees = agrees;
  records = rw (e, f) (read_by ks os [] u.next u.step ks h (record { starts = λ k l. omega (arith, s.each k (omega arith)); steps = c.each; places = omega arith }));
  in_reach = record {
    kinds = rw e h;
    places = n;
    few = λ k l. omega (arith, c.each k l, count_small k ks);
    within = λ k l. let p : get_or u.step k 0 * body_length k ≡ count_of k ks * body_length k = ap (λ (m : ℕ). m * body_length k) (c.each k l) in
        omega (arith, c.each k l, s.each k (omega arith), ap (count_of k) e, ap length f, start_within ks k l);
  };
}

pub all_begin : (ks : List ℕ) → start_of 10 ks ≡ octets_of listed_kinds ks
all_begin ks = refl

-- ---- kinds that are not listed

pub unknown_step : (before : ℕ) (ks : List ℕ) (i x : ℕ) → Step ks i x → listed x ≡ true → first_unknown before (drop i ks) ≡ first_unknown (before + 1) (drop (i + 1) ks)
unfolding first_unknown
unknown_step before ks i x s e = rw (s.split, e)

pub unknown_here : (before : ℕ) (ks : List ℕ) (i x : ℕ) → Step ks i x → listed x ≡ false → first_unknown before (drop i ks) ≡ Some (before + 1)
unfolding first_unknown
unknown_here before ks i x s e = rw (s.split, e)

pub unknown_end : (before : ℕ) (ks : List ℕ) (i : ℕ) → Past ks i → first_unknown before (drop i ks) ≡ None
unfolding first_unknown
unknown_end before ks i s = rw s.rest

pub all_known : (before : ℕ) (ks : List ℕ) → first_unknown before ks ≡ None → all listed ks ≡ true
unfolding first_unknown
all_known before [] e = refl
all_known before (k ∷ ks) e = go (listed k) e (all_known (before + 1) ks)
  where
    go : (b : Bool) → cond b (first_unknown (before + 1) ks) (Some (before + 1)) ≡ None → (first_unknown (before + 1) ks ≡ None → all listed ks ≡ true) → (b && all listed ks) ≡ true
    go true e f = f e
    go false e f = absurd (let z : ◌≡◌ {A = ℕ} 0 1 = cc in omega arith)

-- ---- going through the records

module _ (before : ℕ) (r : List ℕ) (rs : List (List ℕ)) where
  pub bad_first : (c : Refusal) → Some c ≡ refusal_in (request r) → first_bad before (r ∷ rs) ≡ Some (record { number = before + 1; refusal = c })
  unfolding first_bad
  bad_first c e = rw (← e)

  pub good_first : None ≡ refusal_in (request r) → first_bad before (r ∷ rs) ≡ first_bad (before + 1) rs
  unfolding first_bad
  good_first e = rw (← e)

pub none_bad : (before : ℕ) → first_bad before [] ≡ None
unfolding first_bad
none_bad before = refl
