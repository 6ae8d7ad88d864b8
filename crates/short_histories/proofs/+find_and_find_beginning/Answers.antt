-- The walk finds what the definition has at the place.
use Rattle.std.proofs.Common.{◌∙◌, ◌-◌, arith, ap, sym}
use Rattle.short_histories.specs.Code.Walking.{in_front}
use Rattle.short_histories.proofs.Walking.{none_at_first, none_passed, begun_at_first, found, passed, all_passed, begins, none_begins}
use Rattle.short_histories.proofs.+find_and_find_beginning.Goals as goal

pub find-returns-in-0 : goal.find-returns-in-0
find-returns-in-0 t c = none_at_first c.args.board.now c.if-length-eq0.true c.in-0.is

pub find-returns-in_default : goal.find-returns-in_default
find-returns-in_default t c = none_passed c.args.board.now c.args.place c.if-length-eq0.true (λ e. omega arith)

pub find-loop-number-init : goal.find-loop-number-init
find-loop-number-init t c = begun_at_first c.args.board.now c.args.length c.args.place c.if-length-eq0.false

pub find-returns-in-Numbers : goal.find-returns-in-Numbers
find-returns-in-Numbers t c =
    c.in-Numbers.is ∙ found c.args.board.now (c.args.length - 1) c.loop-number.left c.loop-number.number c.loop-number-test.true c.loop-number.invariant (sym c.in-Numbers.is ∙ c.find_beginning.ensures)

pub find-loop-number-preserved : goal.find-loop-number-preserved
find-loop-number-preserved t c = passed c.args.board.now (c.args.length - 1) c.loop-number.left c.loop-number.number c.loop-number-test.true c.loop-number.invariant c.in-Left.ensures

pub find-returns : goal.find-returns
find-returns t c = all_passed c.args.board.now (c.args.length - 1) c.loop-number.left c.loop-number.number c.loop-number-test.false c.loop-number.invariant

pub find_beginning-returns-in-Some : goal.find_beginning-returns-in-Some
find_beginning-returns-in-Some t c = c.in_front.ensures ∙ ap (in_front c.args.number) c.find.ensures ∙ sym (begins c.args.board.now c.args.number c.args.length c.args.place c.in-Some.ensures)

pub find_beginning-returns-in-None : goal.find_beginning-returns-in-None
find_beginning-returns-in-None t c = none_begins c.args.board.now c.args.number c.args.length c.args.place c.in-None.ensures
