use Rattle.std.proofs.Common.{length}
use Rattle.filling.specs.declared.Filling.{Filling}
use Rattle.filling.specs.Code.Putting.{PutGivenRoom}
use Rattle.log_archives.specs.Code.Tables.{InReach, records_in, joined}
use Rattle.log_archives.proofs.unpacking.put_records.Given as goal

-- whatever puts the rest from here on has put the whole
abbrev pub invariant-loop-record : goal.invariant-loop-record
invariant-loop-record l = record {
  in_reach : InReach l.undone;
  whole : (f : Filling) → PutGivenRoom (joined (records_in l.undone)) l.out f → PutGivenRoom (joined (records_in l.initial.undone)) l.initial.out f;
}

abbrev pub decreases-loop-record : goal.decreases-loop-record
decreases-loop-record l = length l.undone.kinds.now
