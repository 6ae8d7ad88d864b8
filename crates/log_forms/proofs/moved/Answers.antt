use Rattle.log_forms.proofs.MovedBehind.{short_refused, options_refused, past_options}
use Rattle.log_forms.proofs.moved.Goals as goal

pub returns-in_default : goal.returns-in_default
returns-in_default c = short_refused c.args.form c.args.log.now c.args.target.now c.in_default.ensures.cases

pub returns-then-not-valid_options : goal.returns-then-not-valid_options
returns-then-not-valid_options c =
    options_refused c.args.form c.args.log.now c.args.target.now c.in-Some.front.now c.in-Some.records.now c.in-Some.ensures.cases c.if-not-valid_options.ensures

pub returns : goal.returns
returns c =
    rw (past_options c.args.form c.args.log.now c.args.target.now c.in-Some.front.now c.in-Some.records.now c.in-Some.ensures.cases c.if-not-valid_options.ensures)
    c.move_behind.ensures
