use Rattle.filling.proofs.Putting.{both}
use Rattle.log_archives.proofs.unpacking.put_records.Goals as goal

pub loop-record-preserved : goal.loop-record-preserved
loop-record-preserved c =
    let l = c.loop-record in
    record {
      in_reach = c.in-Some.ensures.in_reach;
      whole = λ f p. l.invariant.whole f (rw c.in-Some.ensures.records (both (rw c.as_slice.ensures.value at c.put.ensures.put) p));
    }
