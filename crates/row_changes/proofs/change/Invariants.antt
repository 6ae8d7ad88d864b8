use mathlib.Core.Path.{◌≡◌}
use Rattle.octets.proofs.Places.{changed_to}
use Rattle.board.specs.Changes.{row_after}
use Rattle.row_changes.proofs.change.Given as goal

abbrev pub invariant-loop-row : goal.invariant-loop-row
invariant-loop-row l = l.rows ≡ changed_to (row_after l.change) l.row-index l.initial.rows
