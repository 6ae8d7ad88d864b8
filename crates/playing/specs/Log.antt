-- What a log leads to (document 01, "Situations": the program), from its first record on.
use Rattle.std.specs.Prelude.{ℕ, ◌+◌, Bool, cond, ◌||◌, List, [], ◌∷◌, ◌++◌, eqb, leb, get_or}
use Rattle.board.specs.declared.Board.{Board}
use Rattle.events.specs.Records.{records}
use Rattle.rules.specs.Replies.{octets}
use Rattle.rules.specs.Step.{Outcome, step}
use Rattle.log_text.specs.Lines.{record_line}

-- "per record `number kind returned octets`", of what the rules decide
abbrev pub outcome_line : ℕ → List ℕ → Outcome → List ℕ
outcome_line number event o = record_line number (get_or event 0 0) o.returned (octets o.replies)

-- a record on a board, with a reply buffer of 128 octets
abbrev pub judged : Board → List ℕ → Outcome
judged b event = step b event 128

-- "an unknown kind or cut record gets its line (returned 4 or 3) and stops reading"
abbrev pub stops_reading : ℕ → Bool
stops_reading returned = eqb returned 3 || eqb returned 4

-- the largest number of a record, since 64 bits hold no larger one: a log ends there
abbrev pub largest_number : ℕ
largest_number = 18446744073709551615

-- the text of a log, and the board and the number of the last record at its end
pub record LogEnd : Type 0 where
  pub text : List ℕ
  pub board : Board
  pub number : ℕ

abbrev pub ended : Board → ℕ → LogEnd
ended b n = record { text = []; board = b; number = n }

-- with a text in front
abbrev pub with_text : List ℕ → LogEnd → LogEnd
with_text text e = record { text = text ++ e.text; board = e.board; number = e.number }

-- what records lead to on the board b, with n records before
unfoldable pub records_end : Board → ℕ → List (List ℕ) → LogEnd
records_end b n [] = ended b n
records_end b n (event ∷ later) =
    cond (leb largest_number n) (ended b n)
    (with_text (outcome_line (n + 1) event (judged b event))
    (cond (stops_reading (judged b event).returned)
    (ended (judged b event).board (n + 1))
    (records_end (judged b event).board (n + 1) later)))

abbrev pub log_end : Board → ℕ → List ℕ → LogEnd
log_end b n log = records_end b n (records log)
