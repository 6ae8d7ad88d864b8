-- A pair rule as a table (document 02, slip 2).
use Rattle.std.specs.Prelude.{ℕ, ◌+◌, ◌*◌, eqb, length, get_or}
use mathlib.Core.List.{List, map, flat_map}
use Rattle.octets.specs.Lists.{filter}
use Rattle.board.specs.declared.Call.{Call}
use Rattle.verdicts.specs.Situations.{situation, situations}

-- "a table of 1,024 verdicts, 32 situations by 32"
unfoldable pub table_of : (Call → Call → ℕ) → List ℕ
table_of rule = flat_map (λ c. map (rule c) situations) situations

-- the entry of a table for two calls
abbrev pub verdict_in : List ℕ → Call → Call → ℕ
verdict_in table c d = get_or table (32 * situation c + situation d) 0

-- how many entries of a table are a verdict
abbrev pub times : ℕ → List ℕ → ℕ
times v table = length (filter (eqb v) table)
