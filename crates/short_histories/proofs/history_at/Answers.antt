-- The list of all has at the place what the first length that has it has there.
use Rattle.std.proofs.Common.{arith}
use Rattle.short_histories.proofs.Walking.{shorter_none, longer_passed, listed_at, listed_past}
use Rattle.short_histories.proofs.history_at.Goals as goal

pub loop-length-init : goal.loop-length-init
loop-length-init c = shorter_none c.first_board-board.result c.args.place

pub returns-in-Numbers : goal.returns-in-Numbers
returns-in-Numbers c = listed_at c.first_board-board.result c.args.place c.loop-length.left c.loop-length.length c.first_board-board.ensures c.loop-length-test.true c.loop-length.invariant c.in-Numbers.ensures

pub loop-length-preserved : goal.loop-length-preserved
loop-length-preserved c = longer_passed c.first_board-board.result c.args.place c.loop-length.left c.loop-length.length c.loop-length.invariant c.in-Left.ensures

pub returns : goal.returns
returns c = listed_past c.first_board-board.result c.args.place c.loop-length.left c.loop-length.length c.first_board-board.ensures (omega arith) c.loop-length.invariant
