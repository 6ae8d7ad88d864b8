use mathlib.Core.Path.{sym}
use Rattle.filling.proofs.Putting.{nothing}
use Rattle.events.proofs.LogRecords.{ended}
use Rattle.log_archives.proofs.Columns.{kind_put}
use Rattle.log_archives.proofs.packing.put_kinds.Goals as goal

pub loop-record-preserved : goal.loop-record-preserved
loop-record-preserved c =
    let l = c.loop-record in
    λ f p. l.invariant f (kind_put l.rest.now c.in-Some.record.now c.in-Some.later.now c.in-Some.ensures c.put.ensures.put p)

pub returns : goal.returns
returns c = let l = c.loop-record in l.invariant l.out (rw (ended l.rest.now (sym c.in_default.ensures)) (λ _. nothing l.out))
