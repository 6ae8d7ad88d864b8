-- The number of the party at a leg is that of the row found, or unknown where none is found.
use Rattle.std.specs.Prelude.{None, Option, Some}
use Rattle.std.proofs.Math.Bool.{and_comm}
use Prim.Native.Nat.{ℕ}
use mathlib.Core.Path.{◌∙◌, ◌≡◌, refl, sym, ap, ap₂}
use mathlib.Core.Bool.{◌&&◌, Bool}
use mathlib.Core.List.{◌∷◌, List, []}
use lib.Dec.{eqb}
use Rattle.board.specs.Entries.{occupied}
use Rattle.board.specs.Code.Keys.{matches_key}
use Rattle.board.specs.declared.Row.{Row}
use Rattle.octets.specs.Lists.{find, or_else}
use Rattle.rules.specs.Replies.{mark_only, number_as_told, number_of_row, number_at}
use Rattle.board.specs.declared.finding.Key.TheVariants as key

row_at : (l : ℕ) (rows : List Row) → find (matches_key (key.Leg l)) rows ≡ find (λ (r : Row). eqb l r.leg && occupied r.standing) rows
row_at l [] = refl
row_at l (x ∷ rows) = ap₂ (λ (b : Bool) (o : Option Row). or_else b x o) (and_comm (occupied x.standing) (eqb l x.leg)) (row_at l rows)

number_of_found : (l : ℕ) (rows : List Row) {o : Option Row} → find (matches_key (key.Leg l)) rows ≡ o → number_of_row o ≡ number_at rows l
number_of_found l rows e = ap number_of_row (sym e ∙ row_at l rows)

pub number_not_found : (l : ℕ) (rows : List Row) → find (matches_key (key.Leg l)) rows ≡ None → mark_only 0 ≡ number_at rows l
number_not_found l rows e = number_of_found l rows e

pub number_found : (l : ℕ) (rows : List Row) {row : Row} → find (matches_key (key.Leg l)) rows ≡ Some row → number_as_told row.number ≡ number_at rows l
number_found l rows e = number_of_found l rows e
