use Rattle.log_archives.proofs.Tables.{CountedTo}
use Rattle.log_archives.proofs.unpacking.count_kinds.Given as goal

abbrev pub invariant-loop-kind : goal.invariant-loop-kind
invariant-loop-kind l = CountedTo l.kinds l.kind-index l.counts
