-- The step's outcome is what the definitions of accepting and of the board after name.
use Rattle.short_histories.proofs.after.Goals as goal
use Rattle.short_histories.proofs.Walking.{answered}

pub returns : goal.returns
returns c = rw (c.then_some.ensures, c.is_ok.ensures.value) (answered c.args.board.now c.args.number c.step-stepped.result c.step-stepped.new.reply c.event_record.ensures c.step-stepped.ensures)
