use Rattle.std.proofs.Common.{◌≡◌, None, length}
use Rattle.events.specs.Records.{records}
use Rattle.filling.specs.declared.Filling.{Filling}
use Rattle.filling.specs.Code.Putting.{PutGivenRoom}
use Rattle.log_forms.specs.Moving.{first_bad, moved_records}
use Rattle.log_forms.proofs.put_records.Given as goal

-- whatever puts the rest from here on has put the whole
abbrev pub invariant-loop-record : goal.invariant-loop-record
invariant-loop-record l = record {
  faultless : first_bad l.form 0 (records l.rest) ≡ None;
  whole : (f : Filling) → PutGivenRoom (moved_records l.form (records l.rest)) l.out f → PutGivenRoom (moved_records l.form (records l.log)) l.initial.out f;
}

abbrev pub decreases-loop-record : goal.decreases-loop-record
decreases-loop-record l = length l.rest
