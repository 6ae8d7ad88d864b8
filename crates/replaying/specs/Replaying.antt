-- What is claimed of a log and its moved form, played (document 02, slip 8).
use Rattle.std.specs.Prelude.{ℕ, ◌≡◌, List, map, length}
use Rattle.board.specs.declared.Board.{Board}
use Rattle.events.specs.Records.{records}
use Rattle.ect.specs.CallHistory.{StepCall, last_board, number_returned, written}
use Rattle.log_forms.specs.MoveCalls.{behind_options}

abbrev pub event_octets : StepCall → List ℕ
event_octets c = c.event

-- the calls play a log: an event for each of its records
abbrev pub PlaysLog : List ℕ → List StepCall → Type 0
PlaysLog log calls = map event_octets calls ≡ records (behind_options log)

abbrev pub buffer_lengths : List StepCall → List ℕ
buffer_lengths calls = map (λ (c : StepCall). length c.before) calls

abbrev pub board_returned : StepCall → Board
board_returned c = c.returned.board

-- the statement, of calls that began on the board b: those that played the log, and those that played its moved form
pub record Replayed (b : Board) (calls moved : List StepCall) : Type 0 where
  -- at each record the same number, board and reply records, these as they lie in the buffer: "gives the same board and
  -- replies"
  pub numbers : map number_returned calls ≡ map number_returned moved
  pub boards : map board_returned calls ≡ map board_returned moved
  pub replies : map written calls ≡ map written moved
  -- and the same end
  pub last : last_board b calls ≡ last_board b moved
