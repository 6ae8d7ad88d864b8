-- Laws of the records of a log. Assumes nothing.
use Prim.Native.Nat.{ℕ, zero, suc, ◌+◌, ◌≤◌, ◌<◌}
use native.Mathlib.Omega.{arith}
use mathlib.Core.Path.{◌≡◌, ◌∙◌, ap, refl, sym, subst}
use mathlib.Core.Bool.{Bool, true, false, cond}
use mathlib.Core.List.{List, [], ◌∷◌, ◌++◌, flatten, append_assoc}
use lib.ListN.{length, get_or, take, drop, length-append, length-take, length-drop, take-append-drop}
use lib.Seq.{take_at, drop_at, take-append-add, drop-append-add}
use lib.Dec.{leb}
use borrow.Author.Tests.{le-leb, lt-leb, leb-true}
use Rattle.std.specs.Prelude.{None, Some}
use Rattle.events.specs.declared.logs.WholeRecords.{WholeRecords}
use Rattle.events.specs.Code.Pieces.{no_whole, one_whole, whole_from, whole_in}
use Rattle.events.specs.Records.{record_length, front_record, behind, records_from, records}
use Rattle.events.specs.Code.RecordValues.{front_split}

-- every record has its kind
shorter : (o : ℕ) (os : List ℕ) → length (behind (o ∷ os)) ≤ length os
shorter o os = omega (arith, length-drop (record_length o) (o ∷ os))

-- the count of `records_from` does not matter where it is large enough
enough : (k j : ℕ) (log : List ℕ) → length log ≤ k → length log ≤ j → records_from k log ≡ records_from j log
unfolding records_from
enough zero zero log h g = refl
enough zero (suc j) [] h g = refl
enough zero (suc j) (o ∷ os) h g = absurd (omega (arith, h))
enough (suc k) zero [] h g = refl
enough (suc k) zero (o ∷ os) h g = absurd (omega (arith, g))
enough (suc k) (suc j) [] h g = refl
enough (suc k) (suc j) (o ∷ os) h g =
    ap (λ (rs : List (List ℕ)). front_record (o ∷ os) ∷ rs) (enough k j (behind (o ∷ os)) (omega (arith, h, shorter o os)) (omega (arith, g, shorter o os)))

pub no_records : records [] ≡ []
unfolding records_from
no_records = refl

pub first_record : (o : ℕ) (os : List ℕ) → records (o ∷ os) ≡ front_record (o ∷ os) ∷ records (behind (o ∷ os))
unfolding records_from
first_record o os =
    ap (λ (rs : List (List ℕ)). front_record (o ∷ os) ∷ rs) (enough (length os) (length (behind (o ∷ os))) (behind (o ∷ os)) (shorter o os) (omega arith))

-- ---- the records one after another are the log

from_log : (k : ℕ) (log : List ℕ) → length log ≤ k → flatten (records_from k log) ≡ log
unfolding records_from flatten
from_log zero [] h = refl
from_log zero (o ∷ os) h = absurd (omega (arith, h))
from_log (suc k) [] h = refl
from_log (suc k) (o ∷ os) h =
    ap (λ (rest : List ℕ). front_record (o ∷ os) ++ rest) (from_log k (behind (o ∷ os)) (omega (arith, h, shorter o os)))
    ∙ take-append-drop (record_length o) (o ∷ os)

pub records_are_the_log : (log : List ℕ) → flatten (records log) ≡ log
records_are_the_log log = from_log (length log) log (omega arith)

-- ---- what a split says

pub ended : (log : List ℕ) → front_split log ≡ None → records log ≡ []
ended [] e = no_records
ended (o ∷ os) e = absurd (let z : ◌≡◌ {A = ℕ} 0 1 = cc in omega arith)

-- a record in front of a log, and the shorter log behind it
pub record Front (log first later : List ℕ) : Type 0 where
  pub records_are : records log ≡ first ∷ records later
  pub lengths : length first + length later ≡ length log
  pub shorter_by : length later < length log

pub front : (log first later : List ℕ) → front_split log ≡ Some (first, later) → Front log first later
front [] first later e = absurd (let z : ◌≡◌ {A = ℕ} 0 1 = cc in omega arith)
front (o ∷ os) first later e =
    let p : ◌≡◌ {A = List ℕ × List ℕ} (front_record (o ∷ os), behind (o ∷ os)) (first, later) = cc in
    let f = ap (λ (q : List ℕ × List ℕ). q.0) p in
    let l = ap (λ (q : List ℕ × List ℕ). q.1) p in
    record {
      records_are = rw (← f, ← l) (first_record o os);
      lengths = rw (← f, ← l) (omega (arith, length-take (record_length o) (o ∷ os), length-drop (record_length o) (o ∷ os)));
      shorter_by = rw (← l) (omega (arith, shorter o os));
    }

-- a record as long as its kind has it, in front of other octets
pub in_front : (r later : List ℕ) → length r ≡ record_length (get_or r 0 0) → records (r ++ later) ≡ r ∷ records later
in_front [] later h = absurd (omega arith)
in_front (o ∷ os) later h =
    first_record o (os ++ later)
    ∙ rw (← h, take_at (o ∷ os) later (length (o ∷ os)) refl, drop_at (o ∷ os) later (length (o ∷ os)) refl)

-- ---- the whole records in front of a piece

kept_first : (n o : ℕ) (os : List ℕ) → 1 ≤ n → get_or (take n (o ∷ os)) 0 0 ≡ o
kept_first zero o os h = absurd (omega (arith, h))
kept_first (suc n) o os h = refl

first_kind : (o : ℕ) (os : List ℕ) → get_or (front_record (o ∷ os)) 0 0 ≡ o
first_kind o os = kept_first (record_length o) o os (omega arith)

-- the count of `whole_from` does not matter where it is large enough
enough_whole : (k j : ℕ) (piece : List ℕ) → length piece ≤ k → length piece ≤ j → whole_from k piece ≡ whole_from j piece
unfolding whole_from
enough_whole zero zero piece h g = refl
enough_whole zero (suc j) [] h g = refl
enough_whole zero (suc j) (o ∷ os) h g = absurd (omega (arith, h))
enough_whole (suc k) zero [] h g = refl
enough_whole (suc k) zero (o ∷ os) h g = absurd (omega (arith, g))
enough_whole (suc k) (suc j) [] h g = refl
enough_whole (suc k) (suc j) (o ∷ os) h g =
    ap (λ (w : WholeRecords). cond (leb (record_length o) (length (o ∷ os))) (one_whole (record_length o) w) no_whole)
    (enough_whole k j (behind (o ∷ os)) (omega (arith, h, shorter o os)) (omega (arith, g, shorter o os)))

no_whole_in : whole_in [] ≡ no_whole
unfolding whole_from
no_whole_in = refl

first_whole : (o : ℕ) (os : List ℕ) → whole_in (o ∷ os) ≡ cond (leb (record_length o) (length (o ∷ os))) (one_whole (record_length o) (whole_in (behind (o ∷ os)))) no_whole
unfolding whole_from
first_whole o os =
    ap (λ (w : WholeRecords). cond (leb (record_length o) (length (o ∷ os))) (one_whole (record_length o) w) no_whole)
    (enough_whole (length os) (length (behind (o ∷ os))) (behind (o ∷ os)) (shorter o os) (omega arith))

pub whole_ended : (piece : List ℕ) → front_split piece ≡ None → whole_in piece ≡ no_whole
whole_ended [] e = no_whole_in
whole_ended (o ∷ os) e = absurd (let z : ◌≡◌ {A = ℕ} 0 1 = cc in omega arith)

-- a record in front of a piece: cut, or whole
pub whole_cut : (piece first later : List ℕ) → front_split piece ≡ Some (first, later) → length first < record_length (get_or first 0 0) → whole_in piece ≡ no_whole
whole_cut [] first later e h = absurd (let z : ◌≡◌ {A = ℕ} 0 1 = cc in omega arith)
whole_cut (o ∷ os) first later e h =
    let p : ◌≡◌ {A = List ℕ × List ℕ} (front_record (o ∷ os), behind (o ∷ os)) (first, later) = cc in
    let f = ap (λ (q : List ℕ × List ℕ). q.0) p in
    let q : record_length (get_or first 0 0) ≡ record_length o = ap (λ (r : List ℕ). record_length (get_or r 0 0)) (sym f) ∙ ap record_length (first_kind o os) in
    let k : length (front_record (o ∷ os)) < record_length o = omega (arith, h, q, ap length f) in
    let t : leb (record_length o) (length (o ∷ os)) ≡ false = lt-leb (record_length o) (length (o ∷ os)) (omega (arith, k, length-take (record_length o) (o ∷ os))) in
    first_whole o os ∙ rw t

pub whole_front : (piece first later : List ℕ) → front_split piece ≡ Some (first, later) → record_length (get_or first 0 0) ≤ length first
    → whole_in piece ≡ one_whole (length first) (whole_in later)
whole_front [] first later e h = absurd (let z : ◌≡◌ {A = ℕ} 0 1 = cc in omega arith)
whole_front (o ∷ os) first later e h =
    let p : ◌≡◌ {A = List ℕ × List ℕ} (front_record (o ∷ os), behind (o ∷ os)) (first, later) = cc in
    let f = ap (λ (q : List ℕ × List ℕ). q.0) p in
    let l = ap (λ (q : List ℕ × List ℕ). q.1) p in
    let q : record_length (get_or first 0 0) ≡ record_length o = ap (λ (r : List ℕ). record_length (get_or r 0 0)) (sym f) ∙ ap record_length (first_kind o os) in
    let k : record_length o ≤ length (front_record (o ∷ os)) = omega (arith, h, q, ap length f) in
    let n : length (front_record (o ∷ os)) ≡ record_length o = omega (arith, k, length-take (record_length o) (o ∷ os)) in
    let t : leb (record_length o) (length (o ∷ os)) ≡ true = le-leb (record_length o) (length (o ∷ os)) (omega (arith, k, length-take (record_length o) (o ∷ os))) in
    first_whole o os ∙ rw (t, ← f, ← l, n)

-- the octets of the whole records are in the piece and are so many records, and what is behind them goes on behind it
pub record Parted (piece : List ℕ) (w : WholeRecords) : Type 0 where
  pub within : w.octets ≤ length piece
  pub counted : length (records (take w.octets piece)) ≡ w.count
  pub goes_on : (later : List ℕ) → records (piece ++ later) ≡ records (take w.octets piece) ++ records (drop w.octets piece ++ later)

none_parted : (piece : List ℕ) → Parted piece no_whole
none_parted piece = record {
  within = omega arith;
  counted = ap length no_records;
  goes_on = λ later. ap (λ (rs : List (List ℕ)). rs ++ records (piece ++ later)) (sym no_records);
}

one_parted : (r piece : List ℕ) (w : WholeRecords) → length r ≡ record_length (get_or r 0 0) → Parted piece w → Parted (r ++ piece) (one_whole (length r) w)
one_parted r piece w h p =
    let e = ap records (take-append-add r piece w.octets) ∙ in_front r (take w.octets piece) h in
    record {
      within = omega (arith, length-append r piece, p.within);
      counted = omega (arith, ap length e, p.counted);
      goes_on = λ later. rw (e, drop-append-add r piece w.octets, append_assoc r piece later, in_front r (piece ++ later) h, p.goes_on later);
    }

parted_from : (k : ℕ) (piece : List ℕ) → length piece ≤ k → Parted piece (whole_in piece)
parted_from zero [] h = subst (Parted []) (sym no_whole_in) (none_parted [])
parted_from zero (o ∷ os) h = absurd (omega (arith, h))
parted_from (suc k) [] h = subst (Parted []) (sym no_whole_in) (none_parted [])
parted_from (suc k) (o ∷ os) h =
    subst (Parted (o ∷ os)) (sym (first_whole o os)) (go (leb n (length (o ∷ os))) refl (parted_from k (behind (o ∷ os)) (omega (arith, h, shorter o os))))
  where
    n : ℕ
    n = record_length o

    w : WholeRecords
    w = whole_in (behind (o ∷ os))

    go : (t : Bool) → leb n (length (o ∷ os)) ≡ t → Parted (behind (o ∷ os)) w → Parted (o ∷ os) (cond t (one_whole n w) no_whole)
    go false e p = none_parted (o ∷ os)
    go true e p =
        let f = front_record (o ∷ os) in
        let l : length f ≡ n = omega (arith, length-take n (o ∷ os), leb-true n (length (o ∷ os)) e) in
        let i = one_parted f (behind (o ∷ os)) w (l ∙ ap record_length (sym (first_kind o os))) p in
        subst (λ (m : ℕ). Parted (o ∷ os) (one_whole m w)) l (subst (λ (p : List ℕ). Parted p (one_whole (length f) w)) (take-append-drop n (o ∷ os)) i)

pub parted : (piece : List ℕ) → Parted piece (whole_in piece)
parted piece = parted_from (length piece) piece (omega arith)
