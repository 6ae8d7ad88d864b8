-- Laws of going through a log record by record. Assumes nothing.
use Prim.Native.Nat.{ℕ, ◌+◌}
use native.Mathlib.Nat.{add_assoc, add-zero}
use mathlib.Core.Path.{◌≡◌, ap, ◌∙◌, sym}
use mathlib.Core.List.{List, [], ◌++◌}
use lib.ListN.{length, length-append}
use Rattle.std.specs.Prelude.{None, Some, Ok, Err}
use Rattle.events.specs.Records.{records}
use Rattle.events.specs.Code.RecordValues.{front_split}
use Rattle.events.proofs.LogRecords.{front, ended}
use Rattle.log_forms.specs.declared.Form.{Form}
use Rattle.log_forms.specs.declared.Fault.{Fault}
use Rattle.log_forms.specs.declared.NotMoved.TheVariants.{Bad}
use Rattle.log_forms.proofs.MovedRecords.{no_fault, renumbered}
use Rattle.log_forms.specs.Moving.{moved_record, moved_records, fault, first_bad}
use Rattle.log_forms.specs.Code.Judging.{judged}

module _ (form : Form) (before octets : ℕ) (log : List ℕ) where
  pub none_judged : None ≡ front_split log → judged form before octets (records log) ≡ Ok octets
  unfolding first_bad moved_records
  none_judged h = rw (ended log (sym h), add-zero octets)

  module _ (r later : List ℕ) (h : Some (r, later) ≡ front_split log) where
    pub bad_judged : (f : Fault) → Some f ≡ fault form r → judged form before octets (records log) ≡ Err (Bad (record { number = before + 1; fault = f }))
    unfolding first_bad
    bad_judged f e = let p = front log r later (sym h) in rw (p.records_are, ← e)

    pub good_judged : fault form r ≡ None → judged form before octets (records log) ≡ judged form (before + 1) (octets + length (moved_record form r)) (records later)
    unfolding first_bad moved_records
    good_judged e = let p = front log r later (sym h) in
        rw (p.records_are, e, length-append (moved_record form r) (moved_records form (records later)), ← add_assoc octets (length (moved_record form r)) (length (moved_records form (records later))))

-- ---- a log without a bad record

module _ (form : Form) (log : List ℕ) where
  pub none_moved : None ≡ front_split log → moved_records form (records log) ≡ []
  unfolding moved_records
  none_moved h = rw (ended log (sym h))

  module _ (r later : List ℕ) (h : Some (r, later) ≡ front_split log) where
    pub good_first : first_bad form 0 (records log) ≡ None → (fault form r ≡ None) × (first_bad form 0 (records later) ≡ None)
    good_first e =
        let p = front log r later (sym h) in
        let q = no_fault form 0 r (records later) (ap (first_bad form 0) (sym p.records_are) ∙ e) in
        (q.0, renumbered form 1 0 (records later) q.1)

    pub first_moved : moved_records form (records log) ≡ moved_record form r ++ moved_records form (records later)
    unfolding moved_records
    first_moved = let p = front log r later (sym h) in rw p.records_are
