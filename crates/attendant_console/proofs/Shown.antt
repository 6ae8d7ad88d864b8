-- What the board says of a leg is what its row shows, for `shown_on`.
use Rattle.std.specs.Prelude.{None, Option, Some, option_map, option_and_then}
use Prim.Native.Nat.{ℕ}
use mathlib.Core.Path.{◌≡◌, ap, refl, sym, ◌∙◌}
use mathlib.Core.List.{List, []}
use Rattle.octets.specs.Lists.{find, place_from}
use Rattle.octets.proofs.Places.{value_at}
use Rattle.board.specs.declared.Row.{Row}
use Rattle.board.specs.declared.Board.{Board}
use Rattle.board.specs.declared.Standing.TheVariants.{Empty}
use Rattle.board.specs.declared.finding.Key.TheVariants as key
use Rattle.board.specs.Code.Keys.{matches_key}
use Rattle.board.specs.Entries.{row_entry, taken, has_leg}
use Rattle.board.proofs.Searches.{element_at, find_at, entry_by_leg}
use Rattle.attendant_console.specs.Screen.{shown_entry, shown_on}

-- what lies past the end of the rows
abbrev no_row : Row
no_row = record { leg = 0; number = record { presentation = 0; type_of_number = 0; count = 0; digits = [] }; standing = Empty }

entry_of_found : (rows : List Row) (n : ℕ) → option_and_then row_entry (find (matches_key (key.Leg n)) rows) ≡ find (has_leg n) (taken rows)
entry_of_found rows n = ap (option_and_then row_entry) (find_at no_row (matches_key (key.Leg n)) rows) ∙ go (place_from (matches_key (key.Leg n)) 0 rows) ∙ sym (entry_by_leg n rows no_row)
  where
    go : (i : Option ℕ) → option_and_then row_entry (element_at no_row rows i) ≡ value_at row_entry no_row rows i
    go None = refl
    go (Some i) = refl

module _ (b : Board) (n : ℕ) where
  pub shown_found : {row : Row} → find (matches_key (key.Leg n)) b.rows ≡ Some row → option_map shown_entry (row_entry row) ≡ shown_on b n
  unfolding shown_on
  shown_found {row} e = ap (option_map shown_entry) (ap (option_and_then row_entry) (sym e) ∙ entry_of_found b.rows n)

  pub shown_nowhere : find (matches_key (key.Leg n)) b.rows ≡ None → None ≡ shown_on b n
  unfolding shown_on
  shown_nowhere e = ap (option_map shown_entry) (ap (option_and_then row_entry) (sym e) ∙ entry_of_found b.rows n)
