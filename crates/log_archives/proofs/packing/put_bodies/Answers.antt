use mathlib.Core.Path.{◌≡◌}
use Rattle.std.proofs.Common.{arith, ◌<◌}
use Rattle.events.specs.Records.{body_length, records}
use Rattle.log_archives.specs.Regrouping.{bodies_of}
use Rattle.log_archives.proofs.Regrouped.{bodies_long}
use Rattle.log_archives.proofs.Columns.{column_behind, bodies_within, column_put, no_column}
use Rattle.log_archives.proofs.packing.put_bodies.Goals as goal

pub loop-place-preserved : goal.loop-place-preserved
loop-place-preserved c =
    let l = c.loop-place in
    let rs = records c.args.log.now in
    let bodies = bodies_of c.args.kind rs in
    let h : l.place < body_length c.args.kind = omega arith in
    let p = rw (c.as_slice.ensures.value, column_behind c.args.kind c.args.log.now c.find_starts.new.starts.items bodies c.find_starts.ensures l.place h) at c.put_column.ensures in
    λ f q. l.invariant f (column_put l.place (body_length c.args.kind) bodies h p q)

pub put_column-requires : goal.put_column-requires
put_column-requires c =
    let rs = records c.args.log.now in
    let h : c.loop-place.place < body_length c.args.kind = omega arith in
    rw c.as_slice.ensures.value
    (bodies_within c.args.kind c.args.log.now c.find_starts.new.starts.items (bodies_of c.args.kind rs) c.find_starts.ensures c.loop-place.place h (bodies_long rs c.requires.formed c.args.kind))

pub returns : goal.returns
returns c =
    let l = c.loop-place in
    let e : l.place ≡ body_length c.args.kind = omega arith in
    l.invariant l.out (rw e (no_column 0 (body_length c.args.kind) (bodies_of c.args.kind (records c.args.log.now)) l.out))
