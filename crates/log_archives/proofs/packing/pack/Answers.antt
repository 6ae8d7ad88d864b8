use Rattle.log_archives.proofs.Packed.{unfit_refused, past_fit}
use Rattle.log_archives.proofs.packing.pack.Goals as goal

pub returns-then-not-is_fit : goal.returns-then-not-is_fit
returns-then-not-is_fit c = unfit_refused c.args.log.now c.args.target.now c.if-not-is_fit.ensures

pub returns : goal.returns
returns c =
    rw (past_fit c.args.log.now c.args.target.now c.split_at.result.0.now c.split_at.result.1.now c.if-not-is_fit.ensures c.split_at.ensures.front c.split_at.ensures.back)
    c.pack_records.ensures
