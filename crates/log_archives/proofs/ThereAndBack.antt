-- Undoing the archive of a log gives the log back, rearranging an undone archive gives the archive, and every octet of
-- the log is kept. Assumes nothing.
use Rattle.std.specs.Prelude.{flat_map, IsPermutation, None, Option, Some, Result, Ok, Err}
use Rattle.std.proofs.lemmas.List.{length-append, length-map}
use Rattle.std.proofs.lemmas.List.Sorted.{IsPermutation-cons}
use Prim.Native.Nat.{ℕ, ◌+◌, ◌≤◌}
use native.Mathlib.Omega.{arith}
use mathlib.Core.Path.{◌∙◌, ◌≡◌, ap, ap₂, refl, subst, sym}
use mathlib.Core.Bool.{Bool, true, false, cond, ◌&&◌}
use mathlib.Core.List.{◌∷◌, List, [], map, flatten, ◌++◌}
use lib.Dec.{eqb, leb}
use lib.ListN.{length, get_or, take, drop, length-take, length-drop, take-append-drop}
use lib.Seq.{take_at, drop_at}
use borrow.Author.Tests.{le-leb, leb-true}
use Rattle.octets.specs.Lists.{all}
use Rattle.octets.specs.Numbers.{AreOctets, four, number_of}
use Rattle.octets.proofs.Lists.{both, eqb_eq, eqb_of, left, right}
use Rattle.board.specs.Making.{ForOldLog, options, takes}
use Rattle.events.specs.Records.{record_length, records}
use Rattle.events.proofs.LogRecords.{in_front, no_records, records_are_the_log}
use Rattle.log_archives.specs.declared.BadRecord.{BadRecord}
use Rattle.log_archives.specs.declared.NotRegrouped.{NotRegrouped}
use Rattle.log_archives.specs.declared.NotRegrouped.TheVariants.{Unfit, CutShort, BodiesDisagree, TargetTooSmall}
use Rattle.log_archives.specs.Regrouping.{listed_kinds, kind_of, grouped_bodies, archive_of}
use Rattle.log_archives.specs.Undoing.{listed, well_formed, octets_of, undone_records}
use Rattle.log_archives.specs.Judging.{fit, first_bad, fitting, unless_bad, packed_records, packed, log_of, unpacked_records, first_unknown, unless_unknown, unpacked_kinds, unpacked_counted, unpacked}
use Rattle.log_archives.proofs.Counts.{number_of_four, four_of_number, first_octets}
use Rattle.log_archives.proofs.GoodRecords.{no_refusal_found, good_well_formed}
use Rattle.log_archives.proofs.Regrouped.{restored_records, regrouped_records, octets_kept, archive_length, length_grouped}

-- ---- records one behind the other

behind_each_other : (rs : List (List ℕ)) → flat_map (λ (r : List ℕ). r) rs ≡ flatten rs
unfolding flatten
behind_each_other [] = refl
behind_each_other (r ∷ rs) = ap (λ (later : List ℕ). r ++ later) (behind_each_other rs)

log_again : (later : List ℕ) → flat_map (λ (r : List ℕ). r) (records later) ≡ later
log_again later = behind_each_other (records later) ∙ records_are_the_log later

records_again : (rs : List (List ℕ)) → all well_formed rs ≡ true → records (flat_map (λ (r : List ℕ). r) rs) ≡ rs
records_again [] h = no_records
records_again (r ∷ rs) h =
    let f = left (well_formed r) (all well_formed rs) h in
    let long = eqb_eq (length r) (record_length (kind_of r)) (right (listed (kind_of r)) _ f) in
    in_front r (flat_map (λ (q : List ℕ). q) rs) long
    ∙ ap (λ (later : List (List ℕ)). r ∷ later) (records_again rs (right (well_formed r) (all well_formed rs) h))

-- their kinds are listed
kinds_listed : (rs : List (List ℕ)) → all well_formed rs ≡ true → all listed (map kind_of rs) ≡ true
kinds_listed [] h = refl
kinds_listed (r ∷ rs) h =
    both (left (listed (kind_of r)) (eqb (length r) (record_length (kind_of r))) (left (well_formed r) (all well_formed rs) h))
    (kinds_listed rs (right (well_formed r) (all well_formed rs) h))

-- none of some kinds is unknown: each of them is listed
none_unknown : (n : ℕ) (ks : List ℕ) → all listed ks ≡ true → first_unknown n ks ≡ None
unfolding first_unknown
none_unknown n [] h = refl
none_unknown n (k ∷ ks) h = rw (left (listed k) (all listed ks) h) (none_unknown (n + 1) ks (right (listed k) (all listed ks) h))

pub all_listed : (n : ℕ) (ks : List ℕ) → first_unknown n ks ≡ None → all listed ks ≡ true
unfolding first_unknown
all_listed n [] e = refl
all_listed n (k ∷ ks) e = go (listed k) refl e (all_listed (n + 1) ks)
  where
    go : (b : Bool) → listed k ≡ b → cond b (first_unknown (n + 1) ks) (Some (n + 1)) ≡ None → (first_unknown (n + 1) ks ≡ None → all listed ks ≡ true) → all listed (k ∷ ks) ≡ true
    go true h e later = both h (later e)
    go false h e later = no_refusal_found e

-- ---- checks that were passed

passed : (b : Bool) (r : Result (List ℕ) NotRegrouped) (refused : NotRegrouped) (os : List ℕ) → cond b r (Err refused) ≡ Ok os → (b ≡ true) × (r ≡ Ok os)
passed true r refused os e = (refl, e)
passed false r refused os e = absurd (let z : ◌≡◌ {A = ℕ} 0 1 = cc in omega arith)

all_good : (o : Option BadRecord) (made : Result (List ℕ) NotRegrouped) (os : List ℕ) → unless_bad o made ≡ Ok os → (o ≡ None) × (made ≡ Ok os)
all_good None made os e = (refl, e)
all_good (Some b) made os e = absurd (let z : ◌≡◌ {A = ℕ} 0 1 = cc in omega arith)

all_known : (o : Option ℕ) (made : Result (List ℕ) NotRegrouped) (os : List ℕ) → unless_unknown o made ≡ Ok os → (o ≡ None) × (made ≡ Ok os)
all_known None made os e = (refl, e)
all_known (Some n) made os e = absurd (let z : ◌≡◌ {A = ℕ} 0 1 = cc in omega arith)

has_room : (room : ℕ) (made os : List ℕ) → fitting room made ≡ Ok os → made ≡ os
has_room room made os e = let p = (passed (leb (length made) room) (Ok made) TargetTooSmall os e).1 in cc

-- ---- a log that is packed

record Packed (log a : List ℕ) : Type 0 where
  fits : fit 65536 log ≡ true
  good : first_bad 0 (records (drop 2 log)) ≡ None
  is : archive_of (take 2 log) (records (drop 2 log)) ≡ a

packed_by : (log a : List ℕ) (room : ℕ) → packed log room ≡ Ok a → Packed log a
unfolding packed packed_records
packed_by log a room e =
    let rs = records (drop 2 log) in
    let p = passed (fit 65536 log) (packed_records (take 2 log) rs room) Unfit a e in
    let q = all_good (first_bad 0 rs) (fitting room (archive_of (take 2 log) rs)) a p.1 in
    record { fits = p.0; good = q.0; is = has_room room (archive_of (take 2 log) rs) a q.1 }

packs : (log a : List ℕ) (room : ℕ) → Packed log a → length a ≤ room → packed log room ≡ Ok a
unfolding packed packed_records
packs log a room p h =
    let os = archive_of (take 2 log) (records (drop 2 log)) in
    let t : leb (length os) room ≡ true = le-leb (length os) room (omega (arith, ap length p.is)) in
    rw (p.fits, p.good, t) (ap Ok p.is)

-- ---- an archive that is undone

abbrev count_octets : List ℕ → List ℕ
count_octets a = take 4 (drop 2 a)

abbrev kinds_in : List ℕ → List ℕ
kinds_in a = take (number_of (count_octets a)) (drop 4 (drop 2 a))

abbrev bodies_in : List ℕ → List ℕ
bodies_in a = drop (number_of (count_octets a)) (drop 4 (drop 2 a))

record Undone (a log : List ℕ) : Type 0 where
  fits : fit 65540 a ≡ true
  counted : (leb 4 (length (drop 2 a)) && leb (number_of (count_octets a)) (length (drop 4 (drop 2 a)))) ≡ true
  known : first_unknown 0 (kinds_in a) ≡ None
  agree : eqb (length (bodies_in a)) (octets_of listed_kinds (kinds_in a)) ≡ true
  good : first_bad 0 (undone_records (kinds_in a) (bodies_in a)) ≡ None
  is : log_of (take 2 a) (undone_records (kinds_in a) (bodies_in a)) ≡ log

undone_by : (a log : List ℕ) (room : ℕ) → unpacked a room ≡ Ok log → Undone a log
unfolding unpacked unpacked_counted unpacked_kinds unpacked_records
undone_by a log room e =
    let front = take 2 a in
    let ks = kinds_in a in
    let os = bodies_in a in
    let rs = undone_records ks os in
    let p = passed (fit 65540 a) (unpacked_counted front (drop 2 a) room) Unfit log e in
    let q = passed (leb 4 (length (drop 2 a)) && leb (number_of (count_octets a)) (length (drop 4 (drop 2 a)))) (unpacked_kinds front ks os room) CutShort log p.1 in
    let u = all_known (first_unknown 0 ks) (cond (eqb (length os) (octets_of listed_kinds ks)) (unpacked_records front rs room) (Err BodiesDisagree)) log q.1 in
    let v = passed (eqb (length os) (octets_of listed_kinds ks)) (unpacked_records front rs room) BodiesDisagree log u.1 in
    let w = all_good (first_bad 0 rs) (fitting room (log_of front rs)) log v.1 in
    record { fits = p.0; counted = q.0; known = u.0; agree = v.0; good = w.0; is = has_room room (log_of front rs) log w.1 }

undoes : (a log : List ℕ) (room : ℕ) → Undone a log → length log ≤ room → unpacked a room ≡ Ok log
unfolding unpacked unpacked_counted unpacked_kinds unpacked_records
undoes a log room u h =
    let os = log_of (take 2 a) (undone_records (kinds_in a) (bodies_in a)) in
    let t : leb (length os) room ≡ true = le-leb (length os) room (omega (arith, ap length u.is)) in
    rw (u.fits, u.counted, u.known, u.agree, u.good, t) (ap Ok u.is)

-- ---- what fits

record Fit (most : ℕ) (os : List ℕ) : Type 0 where
  two_octets : 2 ≤ length os
  few : length os ≤ most
  good_options : takes ForOldLog (options (get_or os 0 0) (get_or os 1 0)) ≡ true

fit_is : (most : ℕ) (os : List ℕ) → fit most os ≡ true → Fit most os
fit_is most os h =
    let later = leb (length os) most && takes ForOldLog (options (get_or os 0 0) (get_or os 1 0)) in
    let r = right (leb 2 (length os)) later h in
    record {
      two_octets = leb-true 2 (length os) (left (leb 2 (length os)) later h);
      few = leb-true (length os) most (left (leb (length os) most) _ r);
      good_options = right (leb (length os) most) _ r;
    }

fits_in : (most : ℕ) (os : List ℕ) → Fit most os → fit most os ≡ true
fits_in most os f = both (le-leb 2 (length os) f.two_octets) (both (le-leb (length os) most f.few) f.good_options)

-- ---- the archive of a log is undone

-- what lies behind the option octets and the count is as long as the records
length_behind : (rs : List (List ℕ)) → all well_formed rs ≡ true → length (map kind_of rs) + length (grouped_bodies rs) ≡ length (flat_map (λ (r : List ℕ). r) rs)
length_behind rs h = sym (length-append (map kind_of rs) (grouped_bodies rs)) ∙ archive_length rs h

grouped_long : (rs : List (List ℕ)) → length (grouped_bodies rs) ≡ octets_of listed_kinds (map kind_of rs)
unfolding grouped_bodies
grouped_long rs = length_grouped rs listed_kinds

module _ (s t : ℕ) (later : List ℕ) where
  abbrev the_records : List (List ℕ)
  the_records = records later

  abbrev the_kinds : List ℕ
  the_kinds = map kind_of the_records

  abbrev the_archive : List ℕ
  the_archive = s ∷ (t ∷ (four (length the_records) ++ (the_kinds ++ grouped_bodies the_records)))

  count_is : number_of (four (length the_records)) ≡ length the_kinds
  count_is = number_of_four (length the_records) ∙ sym (length-map the_records kind_of)

  kinds_are : kinds_in the_archive ≡ the_kinds
  kinds_are = take_at the_kinds (grouped_bodies the_records) (number_of (four (length the_records))) (sym count_is)

  bodies_are : bodies_in the_archive ≡ grouped_bodies the_records
  bodies_are = drop_at the_kinds (grouped_bodies the_records) (number_of (four (length the_records))) (sym count_is)

  undone_again : fit 65536 (s ∷ (t ∷ later)) ≡ true → first_bad 0 the_records ≡ None → Undone the_archive (s ∷ (t ∷ later))
  undone_again h g =
      let rs = the_records in
      let f = fit_is 65536 (s ∷ (t ∷ later)) h in
      let w = good_well_formed 0 rs g in
      let long = length_behind rs w in
      let same = ap length (log_again later) in
      let all_octets = length-append the_kinds (grouped_bodies rs) in
      let back = restored_records rs w in
      record {
        fits = fits_in 65540 the_archive (record { two_octets = omega arith; few = omega (arith, f.few); good_options = f.good_options });
        counted = both (le-leb 4 (length (drop 2 the_archive)) (omega arith)) (le-leb (number_of (four (length rs))) (length (the_kinds ++ grouped_bodies rs)) (omega (arith, count_is)));
        known = ap (first_unknown 0) kinds_are ∙ none_unknown 0 the_kinds (kinds_listed rs w);
        agree = ap₂ (λ (os ks : List ℕ). eqb (length os) (octets_of listed_kinds ks)) bodies_are kinds_are ∙ eqb_of (length (grouped_bodies rs)) (octets_of listed_kinds the_kinds) (grouped_long rs);
        good = ap (first_bad 0) (ap₂ undone_records kinds_are bodies_are ∙ back) ∙ g;
        is = ap (log_of (s ∷ (t ∷ []))) (ap₂ undone_records kinds_are bodies_are ∙ back) ∙ ap (λ (os : List ℕ). s ∷ (t ∷ os)) (log_again later);
      }

undone_archive : (log a : List ℕ) → Packed log a → Undone a log
unfolding archive_of
undone_archive [] a p = absurd (let f = fit_is 65536 [] p.fits in omega (arith, f.two_octets))
undone_archive (s ∷ []) a p = absurd (let f = fit_is 65536 (s ∷ []) p.fits in omega (arith, f.two_octets))
undone_archive (s ∷ (t ∷ later)) a p = subst (λ (os : List ℕ). Undone os (s ∷ (t ∷ later))) p.is (undone_again s t later p.fits p.good)

-- "Undoing it gives the log back"
pub packed_unpacked : (log a : List ℕ) (room room_back : ℕ) → packed log room ≡ Ok a → length log ≤ room_back → unpacked a room_back ≡ Ok log
packed_unpacked log a room room_back e h = undoes a log room_back (undone_archive log a (packed_by log a room e)) h

-- ---- an undone archive is rearranged

module _ (s t : ℕ) (os : List ℕ) (are_octets : AreOctets os) where
  abbrev the_count : List ℕ
  the_count = take 4 os

  abbrev undone : List (List ℕ)
  undone = undone_records (kinds_in (s ∷ (t ∷ os))) (bodies_in (s ∷ (t ∷ os)))

  rearranged : {log : List ℕ} → Undone (s ∷ (t ∷ os)) log → Packed (s ∷ (t ∷ flat_map (λ (r : List ℕ). r) undone)) (s ∷ (t ∷ os))
  unfolding archive_of
  rearranged u =
      let a = s ∷ (t ∷ os) in
      let ks = kinds_in a in
      let bs = bodies_in a in
      let rs = undone in
      let n = number_of the_count in
      let f = fit_is 65540 a u.fits in
      let whole = leb-true 4 (length os) (left (leb 4 (length os)) _ u.counted) in
      let within = leb-true n (length (drop 4 os)) (right (leb 4 (length os)) _ u.counted) in
      let four_octets : length the_count ≡ 4 = omega (arith, length-take 4 os) in
      let k = regrouped_records ks bs (all_listed 0 ks u.known) (eqb_eq (length bs) (octets_of listed_kinds ks) u.agree) in
      let long = length_behind rs k.records in
      let count : length rs ≡ n = omega (arith, length-map rs kind_of, ap length k.kinds, length-take n (drop 4 os)) in
      let again = records_again rs k.records in
      let octets : four (length rs) ++ (map kind_of rs ++ grouped_bodies rs) ≡ os =
      ap₂ ◌++◌ (ap four count ∙ four_of_number the_count (first_octets 4 os are_octets) four_octets)
      (ap₂ ◌++◌ k.kinds k.bodies ∙ take-append-drop n (drop 4 os))
      ∙ take-append-drop 4 os in
      record {
        fits = fits_in 65536 (s ∷ (t ∷ flat_map (λ (r : List ℕ). r) rs)) (record {
          two_octets = omega arith;
          few = omega (arith, f.few, long, ap length k.kinds, ap length k.bodies, length-take n (drop 4 os), length-drop n (drop 4 os), length-drop 4 os);
          good_options = f.good_options;
        });
        good = ap (first_bad 0) again ∙ u.good;
        is = ap (archive_of (s ∷ (t ∷ []))) again ∙ ap (λ (later : List ℕ). s ∷ (t ∷ later)) octets;
      }

packed_undone : (a log : List ℕ) → AreOctets a → Undone a log → Packed log a
packed_undone [] log h u = absurd (let f = fit_is 65540 [] u.fits in omega (arith, f.two_octets))
packed_undone (s ∷ []) log h u = absurd (let f = fit_is 65540 (s ∷ []) u.fits in omega (arith, f.two_octets))
packed_undone (s ∷ (t ∷ os)) log h u = subst (λ (l : List ℕ). Packed l (s ∷ (t ∷ os))) u.is (rearranged s t os h.1.1 u)

-- "rearranging an undone archive gives the archive"; the numbers are octets for the sake of the four that count
pub unpacked_packed : (a log : List ℕ) (room room_back : ℕ) → AreOctets a → unpacked a room ≡ Ok log → length a ≤ room_back → packed log room_back ≡ Ok a
unpacked_packed a log room room_back o e h = packs log a room_back (packed_undone a log o (undone_by a log room e)) h

-- ---- every octet is kept

all_kept : (log a : List ℕ) → Packed log a → IsPermutation log (take 2 a ++ drop 6 a)
unfolding archive_of
all_kept [] a p = absurd (let f = fit_is 65536 [] p.fits in omega (arith, f.two_octets))
all_kept (s ∷ []) a p = absurd (let f = fit_is 65536 (s ∷ []) p.fits in omega (arith, f.two_octets))
all_kept (s ∷ (t ∷ later)) a p =
    let rs = records later in
    let os = map kind_of rs ++ grouped_bodies rs in
    let moved = subst (λ (l : List ℕ). IsPermutation l os) (log_again later) (octets_kept rs (good_well_formed 0 rs p.good)) in
    let whole = IsPermutation-cons s (t ∷ later) (t ∷ os) (IsPermutation-cons t later os moved) in
    subst (λ (b : List ℕ). IsPermutation (s ∷ (t ∷ later)) (take 2 b ++ drop 6 b)) p.is whole

-- "Every octet of the log is kept, only moved": the archive without its four octets of count has the octets of the log
pub packed_kept : (log a : List ℕ) (room : ℕ) → packed log room ≡ Ok a → IsPermutation log (take 2 a ++ drop 6 a)
packed_kept log a room e = all_kept log a (packed_by log a room e)
