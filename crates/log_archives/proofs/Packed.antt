-- What a judged log comes to. Assumes nothing.
use Prim.Native.Nat.{ℕ, zero, suc, ◌+◌, ◌≤◌, ◌<◌}
use native.Mathlib.Omega.{arith}
use mathlib.Core.Path.{◌≡◌, ◌∙◌, ap, refl}
use mathlib.Core.Bool.{true, false}
use mathlib.Core.List.{List, [], ◌∷◌, ◌++◌, flatten, map}
use lib.Dec.{leb}
use lib.ListN.{length, take, drop, length-append}
use borrow.Author.Tests.{le-leb, lt-leb}
use Rattle.std.specs.Prelude.{Ok, Err, flat_map}
use Rattle.octets.specs.Lists.{all}
use Rattle.octets.specs.Numbers.{four}
use Rattle.events.specs.Records.{behind, records_from, records}
use Rattle.events.proofs.LogRecords.{records_are_the_log}
use Rattle.filling.specs.declared.Filling.{Filling}
use Rattle.filling.specs.Code.Putting.{HasRoom, Put}
use Rattle.log_archives.specs.declared.NotRegrouped.{NotRegrouped}
use Rattle.log_archives.specs.declared.NotRegrouped.TheVariants.{Unfit, TargetTooSmall}
use Rattle.log_archives.specs.Regrouping.{kind_of, grouped_bodies, archive_of}
use Rattle.log_archives.specs.Undoing.{well_formed}
use Rattle.log_archives.specs.Judging.{fit, packed_records, packed}
use Rattle.log_archives.specs.Contract.{Regroups}
use Rattle.log_archives.specs.Code.Judging.{judged}
use Rattle.log_archives.proofs.Regrouped.{archive_length}
use Rattle.log_archives.proofs.GoodRecords.{good_well_formed}
use Rattle.log_archives.proofs.Judged.{found_bad, found_good}

-- ---- how many records a log has, and how long its archive is

fewer_from : (k : ℕ) (log : List ℕ) → length (records_from k log) ≤ k
unfolding records_from
fewer_from zero log = omega arith
fewer_from (suc k) [] = omega arith
fewer_from (suc k) (o ∷ os) = omega (arith, fewer_from k (behind (o ∷ os)))

pub fewer_records : (log : List ℕ) → length (records log) ≤ length log
fewer_records log = fewer_from (length log) log

flattened : (rs : List (List ℕ)) → flat_map (λ (r : List ℕ). r) rs ≡ flatten rs
unfolding flatten
flattened [] = refl
flattened (r ∷ rs) = ap (λ (os : List ℕ). r ++ os) (flattened rs)

-- the records one behind the other are the log
pub records_joined : (log : List ℕ) → flat_map (λ (r : List ℕ). r) (records log) ≡ log
records_joined log = flattened (records log) ∙ records_are_the_log log

pub archive_long : (front log : List ℕ) → all well_formed (records log) ≡ true → length (archive_of front (records log)) ≡ length front + 4 + length log
unfolding archive_of
archive_long front log h =
    let rs = records log in
    let bodies = map kind_of rs ++ grouped_bodies rs in
    omega (arith, length-append front (four (length rs) ++ bodies), length-append (four (length rs)) bodies, archive_length rs h, ap length (records_joined log))

-- ---- the records of a log behind its options

module _ (front log before : List ℕ) where
  pub bad_refused : (why : NotRegrouped) → Err why ≡ judged 0 (records log) → Regroups (packed_records front (records log) (length before)) before (Err why) before
  unfolding packed_records
  bad_refused why e = let b = found_bad (records log) why e in record { answer = rw b.1 (ap (λ (x : NotRegrouped). Err x) b.2); target = rw b.1 }

  module _ (n : ℕ) (e : Ok n ≡ judged 0 (records log)) where
    pub formed : all well_formed (records log) ≡ true
    formed = good_well_formed 0 (records log) (found_good (records log) n e).0

    pub counted : n ≡ length (records log)
    counted = (found_good (records log) n e).1

    pub not_more : n ≤ length log
    not_more = omega (arith, counted, fewer_records log)

    pub small_refused : length before < length front + 4 + length log → Regroups (packed_records front (records log) (length before)) before (Err TargetTooSmall) before
    unfolding packed_records
    small_refused h =
        let os = archive_of front (records log) in
        let g = (found_good (records log) n e).0 in
        let l : leb (length os) (length before) ≡ false = lt-leb (length os) (length before) (omega (arith, archive_long front log formed)) in
        record { answer = rw (g, l); target = rw (g, l) }

    pub room : (f : Filling) → f.at ≡ 0 → f.buffer.now ≡ before → length front + 4 + length log ≤ length before → HasRoom (archive_of front (records log)) f
    room f z b h = omega (arith, z, ap length b, h, archive_long front log formed)

    pub all_packed : {f g : Filling} {b : List ℕ} {m : ℕ} → length front + 4 + length log ≤ length before → f.buffer.now ≡ before → f.at ≡ 0
        → Put (archive_of front (records log)) f g → b ≡ g.buffer.now → m ≡ g.at → Regroups (packed_records front (records log) (length before)) before (Ok m) b
    unfolding packed_records
    all_packed {f} {g} {b} {m} h k z p q w =
        let os = archive_of front (records log) in
        let d = (found_good (records log) n e).0 in
        let c : m ≡ length os = omega arith in
        let t : leb (length os) (length before) ≡ true = le-leb (length os) (length before) (omega (arith, h, archive_long front log formed)) in
        record { answer = rw (d, t) (ap (λ (k : ℕ). Ok k) c); target = rw (d, t, q, p.is, k, z) }

-- ---- a whole log

module _ (log before : List ℕ) where
  pub unfit_refused : false ≡ fit 65536 log → Regroups (packed log (length before)) before (Err Unfit) before
  unfolding packed
  unfit_refused e = record { answer = rw (← e); target = rw (← e) }

  pub past_fit : (front later : List ℕ) → true ≡ fit 65536 log → front ≡ take 2 log → later ≡ drop 2 log → packed log (length before) ≡ packed_records front (records later) (length before)
  unfolding packed
  past_fit front later e p q = rw (← e, p, q)
