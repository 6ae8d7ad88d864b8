use mathlib.Core.Path.{◌≡◌}
use Rattle.std.proofs.Common.{arith, rules, Err}
use Rattle.filling.proofs.Putting.{both}
use Rattle.log_archives.specs.Regrouping.{grouped_bodies, archive_of}
use Rattle.log_archives.proofs.Packed.{bad_refused, small_refused, formed, counted, not_more, room, all_packed}
use Rattle.log_archives.proofs.packing.pack_records.Goals as goal

pub returns-in_err-count : goal.returns-in_err-count
returns-in_err-count c =
    let e : c.from_residual.result ≡ Err c.in_err-count.field-0.0 = search rules in
    rw e (bad_refused c.args.front.now c.args.log.now c.args.target.now c.in_err-count.field-0.0 c.in_err-count.ensures)

pub returns-then-target-front : goal.returns-then-target-front
returns-then-target-front c = small_refused c.args.front.now c.args.log.now c.args.target.now c.in_ok-count.count c.in_ok-count.ensures c.if-target-front.true

pub overflow_cast-count : goal.overflow_cast-count
overflow_cast-count c = omega (arith, not_more c.args.front.now c.args.log.now c.args.target.now c.in_ok-count.count c.in_ok-count.ensures)

pub put_grouped-requires-clause-formed : goal.put_grouped-requires-clause-formed
put_grouped-requires-clause-formed c = formed c.args.front.now c.args.log.now c.args.target.now c.in_ok-count.count c.in_ok-count.ensures

pub returns : goal.returns
unfolding archive_of grouped_bodies
returns c =
    let front = c.args.front.now in
    let log = c.args.log.now in
    let before = c.args.target.now in
    let n = c.in_ok-count.count in
    let e = c.in_ok-count.ensures in
    let new = c.new-out.ensures in
    let h = c.if-target-front.false in
    let a = room front log before n e c.new-out.result new.place new.kept h in
    let count = rw (c.count_octets.ensures, counted front log before n e) at c.put-2.ensures.put in
    let p = both c.put.ensures.put (both count (both c.put_kinds.ensures c.put_grouped.ensures)) a in
    all_packed front log before n e h new.kept new.place p (search (rules, p.same)) (search rules)
