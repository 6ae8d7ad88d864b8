use borrow.Author.Rules.{rules}
use Prim.Native.Nat.{ℕ}
use mathlib.Core.Path.{◌≡◌, sym}
use mathlib.Core.List.{List}
use Rattle.std.specs.Prelude.{Option, Some}
use Rattle.octets.specs.Lists.{place_from}
use Rattle.octets.proofs.Places.{told, Lowest}
use Rattle.board.specs.declared.Row.{Row}
use Rattle.board.specs.declared.finding.Key.TheVariants as key
use Rattle.board.specs.Code.Keys.{matches_key, is_empty}
use Rattle.board.specs.Making.{empty_row}
use Rattle.board.proofs.Searches.{key_lowest, key_nowhere, enter_at_lem, enter_full}
use Rattle.row_changes.proofs.open_row.Goals as goal

lowest : (rows : List Row) {found : Option ℕ} {i : ℕ} → found ≡ place_from (matches_key key.Empty) 0 rows → found ≡ Some i → Lowest is_empty empty_row rows i
lowest rows e s = key_lowest key.Empty rows empty_row _ (told e s)

pub bounds-rows-i : goal.bounds-rows-i
bounds-rows-i c = (lowest c.args.rows.now c.find.ensures c.in-Some.is).within

pub offset_bounds-rows-i : goal.offset_bounds-rows-i
offset_bounds-rows-i c = let below = (lowest c.args.rows.now c.find.ensures c.in-Some.is).within in search rules

pub returns-in-Some : goal.returns-in-Some
returns-in-Some c = sym (enter_at_lem c.args.row c.args.rows.now empty_row _ (lowest c.args.rows.now c.find.ensures c.in-Some.is))

pub returns-in_default : goal.returns-in_default
returns-in_default c = sym (enter_full c.args.row c.args.rows.now (key_nowhere key.Empty c.args.rows.now (told c.find.ensures c.in_default.is)))
