-- One event on a board: what is returned, the board afterwards, and the reply records (document 01, "Event records",
-- "Serving it").
use Rattle.std.specs.Prelude.{ℕ, Bool, cond, List, [], ltb, None, Option, Some}
use Rattle.octets.specs.declared.LinkId.{LinkId}
use Rattle.octets.specs.Numbers.{next_link_id}
use Rattle.board.specs.declared.Standing.TheVariants.{Served}
use Rattle.board.specs.declared.Row.{Row}
use Rattle.board.specs.declared.Board.{Board}
use Rattle.board.specs.declared.Party.{Party}
use Rattle.board.specs.Entries.{taken}
use Rattle.board.specs.Soundness.{sound}
use Rattle.board.specs.Changes.{changed_rows, enter, full}
use Rattle.events.specs.declared.Refusal.TheVariants.{BufferTooSmall, UnsoundBoard}
use Rattle.events.specs.EventRecords.{request}
use Rattle.rules.specs.Checks.{BoardChange, Enter, Apply, Decision, decide, returned_by, change_of, new_link_id_of}
use Rattle.rules.specs.Checks.{written_by}
use Rattle.events.specs.Refusals.{refusal_number}
use Rattle.rules.specs.Replies.{ReplyRecord, number_at}
use Rattle.board.specs.declared.PartyNumber.{PartyNumber}

-- ---- the board afterwards

-- the row of a far party with its number
abbrev pub entered_row : Party → PartyNumber → Row
entered_row p n = record { leg = p.leg; number = n; standing = Served p.call }

-- "Open takes the lowest empty row"
abbrev pub rows_by : BoardChange → List Row → List Row
rows_by (Enter p n) rows = enter (entered_row p n) rows
rows_by (Apply c) rows = changed_rows c rows

unfoldable pub rows_after : Option BoardChange → List Row → List Row
rows_after None rows = rows
rows_after (Some c) rows = rows_by c rows

-- with a new LinkId "the candidate becomes the value after"
abbrev pub candidate_by : Option LinkId → LinkId → LinkId
candidate_by None z = z
candidate_by (Some l) z = record { 0 = next_link_id l.0 }

unfoldable pub candidate_after : Option BoardChange → LinkId → LinkId
candidate_after c z = candidate_by (new_link_id_of c) z

unfoldable pub board_after : Decision → Board → Board
board_after d b = record { rows = rows_after (change_of d) b.rows; options = b.options; candidate = candidate_after (change_of d) b.candidate }

-- the replies, with the numbers that the rows have
unfoldable pub replies : List Row → Decision → List ReplyRecord
replies rows d = written_by d (number_at rows)

-- ---- the event

pub record Outcome : Type 0 where
  pub returned : ℕ
  pub board : Board
  pub replies : List ReplyRecord

-- "board and buffer untouched"
abbrev pub refused : ℕ → Board → Outcome
refused n b = record { returned = n; board = b; replies = [] }

unfoldable pub decision : Board → List ℕ → Decision
decision b os = decide b.options b.candidate.0 (full b.rows) (taken b.rows) (request os)

abbrev pub done : Board → Decision → Outcome
done b d = record { returned = returned_by d; board = board_after d b; replies = replies b.rows d }

-- "1: reply buffer below 128 octets"; "2: board not sound", where `tested` is the answer to that test; then the
-- checks of the record
unfoldable pub step_tested : Bool → Board → List ℕ → ℕ → Outcome
step_tested tested b os room =
    cond (ltb room 128) (refused (refusal_number BufferTooSmall) b)
    (cond tested (done b (decision b os)) (refused (refusal_number UnsoundBoard) b))

unfoldable pub step : Board → List ℕ → ℕ → Outcome
step b os room = step_tested (sound b) b os room
