-- What `play` promises: what the component makes of the event, and the lines after it (document 02, slip 12).
use Rattle.std.specs.Prelude.{ℕ, ◌≡◌, List, length}
use Rattle.board.specs.declared.Board.{Board}
use Rattle.rules.specs.Step.{step}
use Rattle.ect.specs.Contract.{Steps}
use Rattle.ect.specs.declared.Stepped.{Stepped}
use Rattle.attendant_console.specs.declared.Screen.{Screen}
use Rattle.attendant_console.specs.Screen.{lines_after}

-- "It plays events and keeps 16 screen lines": answer, board and buffer are those of `step`, and the lines follow from
-- its outcome
pub record PlaysOnScreen (b : Board) (event before : List ℕ) (old : Screen) (r : Stepped) (after : List ℕ) (new : Screen) : Type 0 where
  pub steps : Steps b event before r after
  pub lines : new.lines ≡ lines_after (step b event (length before)) old.lines
