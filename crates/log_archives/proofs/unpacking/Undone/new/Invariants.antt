use Rattle.log_archives.proofs.Tables.{StartedTo}
use Rattle.log_archives.proofs.unpacking.Undone.new.Given as goal

abbrev pub invariant-loop-kind : goal.invariant-loop-kind
invariant-loop-kind l = StartedTo l.kinds l.kind l.next
