use Rattle.std.proofs.Common.{length}
use Rattle.log_archives.proofs.Starts.{Found}
use Rattle.log_archives.proofs.packing.find_starts.Given as goal

abbrev pub invariant-loop-record : goal.invariant-loop-record
invariant-loop-record l = Found l.kind l.log l.rest l.starts.items

abbrev pub decreases-loop-record : goal.decreases-loop-record
decreases-loop-record l = length l.rest
