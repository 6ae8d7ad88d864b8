-- The counts of rows (document 01, "The board": the last paragraph).
use Rattle.std.specs.Prelude.{ℕ, ◌/◌, cond, List, length, Result, Ok, Err}
use Rattle.octets.specs.Lists.{filter}
use Rattle.board.specs.declared.Row.{Row}
use Rattle.board.specs.declared.Counts.{Counts}
use Rattle.board.specs.declared.Unsound.{Unsound}
use Rattle.board.specs.Entries.{Entry, taken, is_joined, link_ids}
use Rattle.board.specs.Soundness.{sound_rows}

-- "legs: rows not empty; pairs: joined rows, two to a pair; live LinkIds"
abbrev pub legs : List Row → ℕ
legs rows = length (taken rows)

abbrev pub pairs : List Row → ℕ
pairs rows = length (filter (λ (e : Entry). is_joined e.connection) (taken rows)) / 2

abbrev pub links : List Row → ℕ
links rows = link_ids (taken rows)

-- what the count gives: a number and the three counts
pub record CountsAnswer : Type 0 where
  pub returned : ℕ
  pub legs : ℕ
  pub pairs : ℕ
  pub links : ℕ

-- "the count first tests soundness of the rows and refuses with 2 and zeros"
unfoldable pub counts : List Row → CountsAnswer
counts rows =
    cond (sound_rows rows) (record { returned = 0; legs = legs rows; pairs = pairs rows; links = links rows })
    (record { returned = 2; legs = 0; pairs = 0; links = 0 })

-- the number and the counts that each case of the code's answer stands for
abbrev pub counted_answer : Result Counts Unsound → CountsAnswer
counted_answer (Ok c) = record { returned = 0; legs = c.legs; pairs = c.pairs; links = c.links }
counted_answer (Err u) = record { returned = 2; legs = 0; pairs = 0; links = 0 }
