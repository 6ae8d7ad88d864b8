-- What the first option octet 2 makes different, of calls of `step` (document 02, slip 9): an EctExecute, and no other
-- event. The second is claimed beside the slip's own words.
use Rattle.std.specs.Prelude.{ℕ, ◌≡◌}
use Rattle.octets.specs.declared.IntegerOctets.{IntegerOctets}
use Rattle.board.specs.declared.Board.{Board}
use Rattle.rules.specs.AlikeButForExecute.{with_subscribed, problem_1}
use Rattle.rules.specs.Replies.{octets}
use Rattle.ect.specs.CallHistory.{StepCall, written}

-- the statement, of a call on the board with 1 and one on the board with 2: the same answer, the same octets as they lie
-- in the buffers, and boards that again differ in that octet alone
pub record Alike (one two : StepCall) : Type 0 where
  pub answer : one.returned.answer ≡ two.returned.answer
  pub octets : written one ≡ written two
  pub board : Board
  pub board_one : one.returned.board ≡ with_subscribed 1 board
  pub board_two : two.returned.board ≡ with_subscribed 2 board

-- "EctExecute then gets invoke problem 1": the statement, of a call on the board with 2
pub record Rejects (b : Board) (c : StepCall) (r : ℕ) (i : IntegerOctets) : Type 0 where
  pub octets_written : written c ≡ octets (problem_1 r i)
  pub board_stays : c.returned.board ≡ with_subscribed 2 b
