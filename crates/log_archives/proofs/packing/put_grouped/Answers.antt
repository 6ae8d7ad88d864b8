use Prim.Native.Nat.{ℕ}
use Rattle.events.specs.Records.{body_length, records}
use Rattle.log_archives.specs.Regrouping.{bodies_of, columns}
use Rattle.log_archives.proofs.Columns.{kinds_put}
use Rattle.log_archives.proofs.packing.put_grouped.Goals as goal

pub loop-kind-preserved : goal.loop-kind-preserved
loop-kind-preserved c =
    let l = c.loop-kind in
    let rs = records c.args.log.now in
    λ f q. l.invariant f (kinds_put (λ (kind : ℕ). columns 0 (body_length kind) (bodies_of kind rs)) c.args.kinds.now l.kind-index c.loop-kind-test.true c.put_bodies.ensures q)
