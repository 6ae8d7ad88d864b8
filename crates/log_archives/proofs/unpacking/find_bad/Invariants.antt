use Rattle.std.proofs.Common.{◌≡◌, ◌+◌, ◌≤◌, length}
use Rattle.log_archives.specs.Judging.{first_bad}
use Rattle.log_archives.specs.Code.Tables.{InReach, records_in}
use Rattle.log_archives.proofs.unpacking.find_bad.Given as goal

abbrev pub invariant-loop-record : goal.invariant-loop-record
invariant-loop-record l = record {
  in_reach : InReach l.undone;
  number : l.number + length l.undone.kinds.now ≤ length l.initial.undone.kinds.now;
  outcome : first_bad l.number (records_in l.undone) ≡ first_bad 0 (records_in l.initial.undone);
}

abbrev pub decreases-loop-record : goal.decreases-loop-record
decreases-loop-record l = length l.undone.kinds.now
