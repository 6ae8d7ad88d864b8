use mathlib.Core.Path.{◌∙◌, sym}
use Rattle.octets.proofs.Loops.{step_at, past_end}
use Rattle.log_archives.proofs.Tables.{unknown_here, unknown_step, unknown_end}
use Rattle.log_archives.proofs.unpacking.find_unknown.Goals as goal

pub returns-then-not-is_listed : goal.returns-then-not-is_listed
returns-then-not-is_listed c =
    let l = c.loop-before in
    sym (unknown_here l.before c.args.kinds.now l.before _ (step_at c.args.kinds.now l.before 0 c.loop-before-test.true) (sym c.if-not-is_listed.ensures)) ∙ l.invariant

pub loop-before-preserved : goal.loop-before-preserved
loop-before-preserved c =
    let l = c.loop-before in
    sym (unknown_step l.before c.args.kinds.now l.before _ (step_at c.args.kinds.now l.before 0 c.loop-before-test.true) (sym c.if-not-is_listed.ensures)) ∙ l.invariant

pub returns : goal.returns
returns c =
    let l = c.loop-before in
    sym (unknown_end l.before c.args.kinds.now l.before (past_end c.args.kinds.now l.before c.loop-before-test.false)) ∙ l.invariant
