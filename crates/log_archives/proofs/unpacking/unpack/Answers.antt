use Rattle.std.proofs.Common.{take, drop}
use Rattle.log_archives.proofs.Unpacked.{unfit_refused, past_fit, cut_refused, past_count}
use Rattle.log_archives.proofs.unpacking.unpack.Goals as goal

pub returns-then-not-is_fit : goal.returns-then-not-is_fit
returns-then-not-is_fit c = unfit_refused c.args.archive.now c.args.target.now c.if-not-is_fit.ensures

pub returns-in_default : goal.returns-in_default
returns-in_default c =
    let archive = c.args.archive.now in
    rw (past_fit archive c.args.target.now c.if-not-is_fit.ensures)
    (cut_refused (take 2 archive) (drop 2 archive) c.args.target.now (rw c.split_at.ensures.back at c.in_default.ensures))

pub returns : goal.returns
returns c =
    let archive = c.args.archive.now in
    let p = past_count (take 2 archive) (drop 2 archive) c.args.target.now c.in-Some.kinds.now c.in-Some.bodies.now (rw c.split_at.ensures.back at c.in-Some.ensures) in
    rw (past_fit archive c.args.target.now c.if-not-is_fit.ensures, p.is, ← c.split_at.ensures.front) c.unpack_kinds.ensures
