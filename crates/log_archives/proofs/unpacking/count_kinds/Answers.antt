use Rattle.octets.proofs.Loops.{step_at}
use Rattle.log_archives.proofs.Tables.{counted_more}
use Rattle.log_archives.proofs.unpacking.count_kinds.Goals as goal

pub loop-kind-preserved : goal.loop-kind-preserved
loop-kind-preserved c =
    let l = c.loop-kind in
    rw c.from.ensures (counted_more c.args.kinds.now l.kind-index _ l.counts (step_at c.args.kinds.now l.kind-index 0 c.loop-kind-test.true) l.invariant)
