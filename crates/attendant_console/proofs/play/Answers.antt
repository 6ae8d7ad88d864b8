use mathlib.Core.Path.{◌∙◌, sym}
use Rattle.attendant_console.proofs.Playing.{accepted_lines, refused_lines}
use Rattle.attendant_console.proofs.play.Goals as goal

pub returns-then-is_ok : goal.returns-then-is_ok
returns-then-is_ok c =
    let met = c.step-stepped.ensures in
    record { steps = met; lines = c.redrawn.ensures ∙ accepted_lines met c.args.screen.now.lines (sym c.is_ok.ensures.value ∙ c.if-is_ok.true) }

pub returns-else-is_ok : goal.returns-else-is_ok
returns-else-is_ok c =
    let met = c.step-stepped.ensures in
    record { steps = met; lines = refused_lines met c.args.screen.now.lines (sym c.is_ok.ensures.value ∙ c.if-is_ok.false) }
