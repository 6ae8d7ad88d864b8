-- Laws of going through records one by one. Assumes nothing.
use Prim.Native.Nat.{ℕ, ◌+◌}
use native.Mathlib.Nat.{add-zero}
use native.Mathlib.Omega.{arith}
use mathlib.Core.Path.{◌≡◌, ◌∙◌, ap, ap₂, sym}
use mathlib.Core.Bool.{true}
use mathlib.Core.List.{List, [], ◌∷◌, ◌++◌}
use lib.ListN.{length, take-append-drop}
use Rattle.std.specs.Prelude.{None, Some, Ok, Err}
use Rattle.octets.specs.Lists.{all}
use Rattle.octets.proofs.Lists.{left, right}
use Rattle.events.specs.declared.Refusal.{Refusal}
use Rattle.events.specs.EventRecords.{request}
use Rattle.events.specs.Records.{record_length, front_record, behind, records}
use Rattle.events.specs.Code.RecordValues.{front_split}
use Rattle.events.proofs.LogRecords.{front, ended}
use Rattle.log_archives.specs.declared.NotRegrouped.TheVariants.{Bad}
use Rattle.log_archives.specs.Undoing.{well_formed}
use Rattle.log_archives.specs.Judging.{refusal_in, first_bad}
use Rattle.log_archives.specs.Code.Judging.{judged}
use Rattle.log_archives.proofs.GoodRecords.{no_refusal_found}

module _ (before : ℕ) (log : List ℕ) where
  pub none_judged : None ≡ front_split log → judged before (records log) ≡ Ok before
  unfolding first_bad
  none_judged h = rw (ended log (sym h), add-zero before)

  module _ (r later : List ℕ) (h : Some (r, later) ≡ front_split log) where
    pub bad_judged : (c : Refusal) → Some c ≡ refusal_in (request r) → judged before (records log) ≡ Err (Bad (record { number = before + 1; refusal = c }))
    unfolding first_bad
    bad_judged c e = let p = front log r later (sym h) in rw (p.records_are, ← e)

    pub good_judged : refusal_in (request r) ≡ None → judged before (records log) ≡ judged (before + 1) (records later)
    unfolding first_bad
    good_judged e =
        let p = front log r later (sym h) in
        let n : before + length (r ∷ records later) ≡ (before + 1) + length (records later) = omega arith in
        rw (p.records_are, e, n)

-- ---- well formed records

module _ (log r later : List ℕ) (h : Some (r, later) ≡ front_split log) where
  pub in_front : log ≡ r ++ later
  in_front = go log h
    where
      go : (l : List ℕ) → Some (r, later) ≡ front_split l → l ≡ r ++ later
      go [] e = no_refusal_found e
      go (o ∷ os) e =
          let p : ◌≡◌ {A = List ℕ × List ℕ} (r, later) (front_record (o ∷ os), behind (o ∷ os)) = cc in
          sym (take-append-drop (record_length o) (o ∷ os)) ∙ sym (ap₂ ◌++◌ (ap (λ (q : List ℕ × List ℕ). q.0) p) (ap (λ (q : List ℕ × List ℕ). q.1) p))

  pub first_formed : all well_formed (records log) ≡ true → (well_formed r ≡ true) × (all well_formed (records later) ≡ true)
  first_formed e =
      let p = front log r later (sym h) in
      let both = sym (ap (all well_formed) p.records_are) ∙ e in
      (left (well_formed r) (all well_formed (records later)) both, right (well_formed r) (all well_formed (records later)) both)
