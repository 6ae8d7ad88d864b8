-- A party or an entry that the rules look up is that of the row found.
use Rattle.std.specs.Prelude.{None, Option, Some}
use Rattle.std.specs.Option.{option_and_then}
use Prim.Native.Nat.{ℕ}
use mathlib.Core.Path.{◌∙◌, refl, ap, sym, ◌≡◌}
use mathlib.Core.List.{[], List}
use Rattle.board.proofs.Searches.{element_at, find_at, entry_by_leg, party_by_reference, party_by_link_id}
use Rattle.board.specs.Entries.{calls, taken, row_entry, row_party, has_party_link_id}
use Rattle.board.specs.Code.Keys.{matches_key}
use Rattle.octets.specs.declared.CallReference.{CallReference}
use Rattle.octets.specs.declared.LinkId.{LinkId}
use Rattle.board.specs.declared.Row.{Row}
use Rattle.board.specs.declared.Standing.TheVariants.{Empty}
use Rattle.rules.specs.Checks.{entry_at, named}
use Rattle.octets.proofs.Places.{value_at}
use Rattle.octets.specs.Lists.{find, place_from}
use Rattle.board.specs.declared.finding.Key.{Key}
use Rattle.board.specs.declared.finding.Key.TheVariants as key

-- what lies past the end of the rows
abbrev pub no_row : Row
no_row = record { leg = 0; number = record { presentation = 0; type_of_number = 0; count = 0; digits = [] }; standing = Empty }

-- what the rules look up is that of the row found
found_lem : {A : Type 0} (f : Row → Option A) (k : Key) (rows : List Row) {o : Option A} {row : Option Row} → o ≡ value_at f no_row rows (place_from (matches_key k) 0 rows) →
    find (matches_key k) rows ≡ row → option_and_then f row ≡ o
found_lem f k rows law e = ap (option_and_then f) (sym e ∙ find_at no_row (matches_key k) rows) ∙ sym (law ∙ go (place_from (matches_key k) 0 rows))
  where
    go : (i : Option ℕ) → value_at f no_row rows i ≡ option_and_then f (element_at no_row rows i)
    go None = refl
    go (Some i) = refl

module _ (rows : List Row) {row : Row} where
  pub named_found : (r : CallReference) → find (matches_key (key.Reference r)) rows ≡ Some row → row_party row ≡ named r.0 (taken rows)
  named_found r e = found_lem row_party (key.Reference r) rows (party_by_reference r rows no_row) e

  pub linked_found : (l : LinkId) → find (matches_key (key.LinkId l)) rows ≡ Some row → row_party row ≡ find (has_party_link_id l.0) (calls (taken rows))
  linked_found l e = found_lem row_party (key.LinkId l) rows (party_by_link_id l rows no_row) e

  pub entry_found : (n : ℕ) → find (matches_key (key.Leg n)) rows ≡ Some row → row_entry row ≡ entry_at n (taken rows)
  entry_found n e = found_lem row_entry (key.Leg n) rows (entry_by_leg n rows no_row) e

module _ (rows : List Row) where
  pub named_nowhere : (r : CallReference) → find (matches_key (key.Reference r)) rows ≡ None → None ≡ named r.0 (taken rows)
  named_nowhere r e = found_lem row_party (key.Reference r) rows (party_by_reference r rows no_row) e

  pub linked_nowhere : (l : LinkId) → find (matches_key (key.LinkId l)) rows ≡ None → None ≡ find (has_party_link_id l.0) (calls (taken rows))
  linked_nowhere l e = found_lem row_party (key.LinkId l) rows (party_by_link_id l rows no_row) e

  pub entry_nowhere : (n : ℕ) → find (matches_key (key.Leg n)) rows ≡ None → None ≡ entry_at n (taken rows)
  entry_nowhere n e = found_lem row_entry (key.Leg n) rows (entry_by_leg n rows no_row) e
