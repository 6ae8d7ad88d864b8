use Rattle.log_archives.proofs.Starts.{one_found, other_kind, all_found}
use Rattle.log_archives.proofs.packing.find_starts.Goals as goal

pub loop-record-preserved-then-record-kind : goal.loop-record-preserved-then-record-kind
loop-record-preserved-then-record-kind c =
    let l = c.loop-record in
    rw c.push.ensures.items
    (one_found c.args.kind c.args.log.now l.rest.now c.in-Some.record.now c.in-Some.later.now l.starts.items l.invariant c.in-Some.ensures c.if-record-kind.true)

pub loop-record-preserved : goal.loop-record-preserved
loop-record-preserved c =
    let l = c.loop-record in
    other_kind c.args.kind c.args.log.now l.rest.now c.in-Some.record.now c.in-Some.later.now l.starts.items l.invariant c.in-Some.ensures c.if-record-kind.false

pub returns : goal.returns
returns c =
    let l = c.loop-record in
    all_found c.args.kind c.args.log.now l.rest.now l.starts.items l.invariant c.in_default.ensures
