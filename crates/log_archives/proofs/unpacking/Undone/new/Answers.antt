use mathlib.Core.Path.{◌≡◌, ◌∙◌, refl}
use Rattle.std.proofs.Common.{arith, get_or}
use Rattle.log_archives.proofs.Tables.{none_started, more_started, share, start_within, all_small, begun, all_begin}
use Rattle.log_archives.specs.Undoing.{start_of}
use Rattle.log_archives.specs.Code.Tables.{Started}
use Rattle.log_archives.proofs.unpacking.Undone.new.Goals as goal

pub loop-kind-init : goal.loop-kind-init
loop-kind-init c = none_started c.args.kinds.now _ refl

pub overflow_mul-next : goal.overflow_mul-next
overflow_mul-next c =
    let k = c.loop-kind.kind in
    let ks = c.args.kinds.now in
    let m = share ks c.count_kinds-step.result k c.from-k.result c.record_length.result c.loop-kind-test.true c.from-k.ensures c.record_length.ensures c.count_kinds-step.ensures in
    omega (arith, m, start_within ks k c.loop-kind-test.true, all_small ks)

pub overflow_add-next : goal.overflow_add-next
overflow_add-next c =
    let k = c.loop-kind.kind in
    let ks = c.args.kinds.now in
    let m = share ks c.count_kinds-step.result k c.from-k.result c.record_length.result c.loop-kind-test.true c.from-k.ensures c.record_length.ensures c.count_kinds-step.ensures in
    let s : get_or c.loop-kind.next c.from-k.result 0 ≡ start_of k ks = rw c.from-k.ensures (c.loop-kind.invariant.each k (omega arith)) in
    omega (arith, m, s, start_within ks k c.loop-kind-test.true, all_small ks)

pub loop-kind-preserved : goal.loop-kind-preserved
loop-kind-preserved c =
    let k = c.loop-kind.kind in
    let ks = c.args.kinds.now in
    let m = share ks c.count_kinds-step.result k c.from-k.result c.record_length.result c.loop-kind-test.true c.from-k.ensures c.record_length.ensures c.count_kinds-step.ensures in
    rw m (rw c.from-k.ensures (more_started ks k _ c.loop-kind.next c.loop-kind-test.true refl c.loop-kind.invariant))

pub returns : goal.returns
returns c =
    let ks = c.args.kinds.now in
    let l = c.loop-kind in
    let s : Started ks l.next = record { each = λ k h. l.invariant.each k (omega arith) } in
    let e = c.if-bodies-next.false ∙ l.invariant.each 10 c.loop-kind-test.false ∙ all_begin ks in
    begun (record { kinds = c.args.kinds; bodies = c.args.bodies; next = l.next; step = c.count_kinds-step.result }) ks c.args.bodies.now
    refl refl c.requires.few c.requires.listed c.count_kinds-step.ensures s l.invariant.places e
