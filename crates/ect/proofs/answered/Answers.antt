use Rattle.std.proofs.Common.{rules}
use Rattle.ect.proofs.StepLaws.{step_refused, step_done}
use Rattle.ect.proofs.answered.Goals as goal

pub returns-in-Ok : goal.returns-in-Ok
returns-in-Ok c = search (rules, step_done)

pub returns-in-Err : goal.returns-in-Err
returns-in-Err c = search (rules, step_refused)
