use mathlib.Core.Path.{◌≡◌}
use mathlib.Core.List.{map}
use lib.ListN.{drop}
use Rattle.attendant_console.specs.Code.Redrawing.{found_in, redrawn_lines}
use Rattle.attendant_console.proofs.redrawn.Given as goal

-- what the rows still to come make of the lines is what all rows make of them
abbrev pub invariant-loop-row : goal.invariant-loop-row
invariant-loop-row l = map (found_in (drop l.row-index l.rows)) l.lines ≡ redrawn_lines l.rows l.fn.screen.lines
