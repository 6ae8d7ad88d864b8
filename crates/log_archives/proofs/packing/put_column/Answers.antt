use Rattle.log_archives.proofs.Columns.{later_within, octet_put}
use Rattle.log_archives.proofs.packing.put_column.Goals as goal

pub loop-start-preserved : goal.loop-start-preserved
loop-start-preserved c =
    let l = c.loop-start in
    let p = rw c.from.ensures at c.put.ensures.put in
    record {
      inside = later_within c.args.place c.args.log.now c.args.starts.now l.start-index c.loop-start-test.true l.invariant.inside;
      whole = λ f q. l.invariant.whole f (octet_put c.args.place c.args.log.now c.args.starts.now l.start-index c.loop-start-test.true p q);
    }
