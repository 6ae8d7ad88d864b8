-- Making a fresh board (document 01, "The board": the first paragraph; document 02, slip 9).
use Rattle.std.specs.Prelude.{ℕ, Bool, cond, is_none, pos, replicate, eqb, None, Option, Some, Result, Ok, Err}
use Rattle.board.specs.declared.Standing.TheVariants.{Empty}
use Rattle.board.specs.declared.Row.{Row}
use Rattle.board.specs.declared.Options.{Options}
use Rattle.board.specs.declared.Board.{Board}
use Rattle.board.specs.declared.OptionFault.{OptionFault}
use Rattle.board.specs.declared.OptionFault.TheVariants.{OutsideItsRange, ImplicitLinkage}
use Rattle.board.specs.declared.BadOptions.{BadOptions}
use Rattle.board.specs.Soundness.{valid_options}

-- "empty (all else zero)"
abbrev pub empty_row : Row
empty_row = record { leg = 0; number = record { presentation = 0; type_of_number = 0; count = 0; digits = replicate 15 0 }; standing = Empty }

-- "64 rows, two options .. and the next LinkId candidate, 0 at first"
abbrev pub empty_board : Options → Board
empty_board o = record { rows = replicate 64 empty_row; options = o; candidate = record { 0 = pos 0 } }

abbrev pub options : ℕ → ℕ → Options
options s a = record { subscribed = s; alerting = a }

-- what making a board gives: a number and the board
pub record Made : Type 0 where
  pub returned : ℕ
  pub board : Board

-- the term "opening": of "a live board", and "a separate opening for old logs"
pub data Opening : Type 0 where
  Live : Opening
  ForOldLog : Opening

-- "Making a fresh board takes one octet per option ..; else 5 is returned"
-- "5 for a second option octet above 3 when a board is made" (document 02, slip 7)
abbrev pub range_refusal : Options → Option ℕ
range_refusal o = cond (valid_options o) None (Some 5)

-- "a separate opening for old logs takes 0, 1 or 2"; "14 where a live board is asked for with first octet 1, before the
-- second octet is judged"
abbrev pub making_refusal : Opening → Options → Option ℕ
making_refusal Live o = cond (eqb o.subscribed 1) (Some 14) (range_refusal o)
making_refusal ForOldLog o = range_refusal o

-- "an empty board, both options 0"; "the board returned is the empty one with both options 0" (slip 9)
abbrev pub made : Options → Option ℕ → Made
made o None = record { returned = 0; board = empty_board o }
made o (Some n) = record { returned = n; board = empty_board (options 0 0) }

-- whether an opening takes these options
abbrev pub takes : Opening → Options → Bool
takes way o = is_none (making_refusal way o)

unfoldable pub fresh : Opening → ℕ → ℕ → Made
fresh way s a = made (options s a) (making_refusal way (options s a))

-- the number and the board that each case of the code's answer stands for
abbrev pub option_fault_number : OptionFault → ℕ
option_fault_number OutsideItsRange = 5
option_fault_number ImplicitLinkage = 14

abbrev pub made_answer : Result Board BadOptions → Made
made_answer (Ok b) = record { returned = 0; board = b }
made_answer (Err e) = record { returned = option_fault_number e.fault; board = e.board }
