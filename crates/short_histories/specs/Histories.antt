-- The short histories of six events (document 02, slip 10).
use Rattle.std.specs.Prelude.{ℕ, Bool, ◌-◌, List, [], ◌∷◌, ◌++◌, eqb, length, get_or, replicate, slice_get, None, Option, Some, Result, Ok, Err}
use Rattle.board.specs.declared.Board.{Board}
use Rattle.board.specs.Making.{ForOldLog, fresh}
use Rattle.rules.specs.Step.{Outcome, step}
use Rattle.short_histories.specs.declared.History.{History}
use Rattle.short_histories.specs.declared.PastTheEnd.{PastTheEnd}
use Rattle.short_histories.specs.Sequences.{up_to}

-- ---- the six records

-- "Open reference 1, leg 1, outgoing; Open reference 2, leg 2, incoming; both shown, digits 21"
abbrev pub open_record : ℕ → ℕ → List ℕ
open_record n direction = 1 ∷ 0 ∷ n ∷ 0 ∷ 0 ∷ 0 ∷ n ∷ direction ∷ 0 ∷ 2 ∷ 0x32 ∷ 0x31 ∷ replicate 13 0

-- "Progress reference 1 to 10; Progress reference 2 to 10"
abbrev pub progress_record : ℕ → List ℕ
progress_record n = 2 ∷ 0 ∷ n ∷ 10 ∷ []

-- "Release leg 1; Release leg 2"
abbrev pub release_record : ℕ → List ℕ
release_record n = 4 ∷ 0 ∷ 0 ∷ 0 ∷ n ∷ []

-- "numbered 0 to 5"
abbrev pub six_records : List (List ℕ)
six_records = open_record 1 0 ∷ open_record 2 1 ∷ progress_record 1 ∷ progress_record 2 ∷ release_record 1 ∷ release_record 2 ∷ []

abbrev pub record_numbered : ℕ → List ℕ
record_numbered n = get_or six_records n []

-- ---- the list

-- "with buffers of 128 octets"
abbrev pub stepped_by : Board → ℕ → Outcome
stepped_by b n = step b (record_numbered n) 128

-- the event of a number is not "refused"
unfoldable pub accepts_number : Board → ℕ → Bool
accepts_number b n = eqb (stepped_by b n).returned 0

-- and the board that it leaves
unfoldable pub after_number : Board → ℕ → Board
after_number b n = (stepped_by b n).board

-- "a fresh board with options 1 and 1 through the opening for old logs"
unfoldable pub first_board : Board
first_board = (fresh ForOldLog 1 1).board

-- "at most four of them"
abbrev pub most_events : ℕ
most_events = 4

-- "every sequence of at most four of them in which no event is refused, the empty one included"
unfoldable pub histories : List (List ℕ)
histories = up_to accepts_number after_number most_events first_board

-- ---- what a caller gets

-- a number, and a sequence: its length, which is how many events it has, and its numbers in four octets, those behind
-- them 0
pub record Listed : Type 0 where
  pub returned : ℕ
  pub events : ℕ
  pub numbers : List ℕ

-- "gets its length and its numbers"; "15 for a place at or past the list's length, with an empty sequence returned"
abbrev pub listed : Option (List ℕ) → Listed
listed (Some ns) = record { returned = 0; events = length ns; numbers = ns ++ replicate (most_events - length ns) 0 }
listed None = record { returned = 15; events = 0; numbers = replicate most_events 0 }

-- "A caller asks for the sequence at a place in the list, counted from 0"
unfoldable pub history_at : ℕ → Listed
history_at place = listed (slice_get histories place)

-- the number that the code's refusal is returned as
abbrev pub past_the_end_number : PastTheEnd → ℕ
past_the_end_number e = 15

-- the number and the sequence that each case of the code's answer stands for
abbrev pub listed_answer : Result History PastTheEnd → Listed
listed_answer (Ok h) = record { returned = 0; events = h.length; numbers = h.numbers }
listed_answer (Err e) = record { returned = past_the_end_number e; events = e.history.length; numbers = e.history.numbers }
