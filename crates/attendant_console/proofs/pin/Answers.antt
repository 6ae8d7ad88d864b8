use borrow.Author.Rules.{rules}
use Prim.Native.Nat.{ℕ}
use mathlib.Core.Path.{◌≡◌}
use mathlib.Core.List.{List}
use native.Mathlib.Omega.{arith}
use lib.ListN.{length}
use Rattle.std.specs.Prelude.{Option, None, Some}
use Rattle.octets.specs.Lists.{place_from}
use Rattle.octets.proofs.Places.{told, Lowest, place_lowest}
use Rattle.attendant_console.specs.Screen.{Line, is_empty}
use Rattle.attendant_console.proofs.pin.Goals as goal

lowest : (ls : List Line) {found : Option ℕ} {i : ℕ} → found ≡ place_from is_empty 0 ls → found ≡ Some i → Lowest is_empty None ls i
lowest ls {i = i} e s = place_lowest is_empty None ls i (told e s)

pub bounds-screen-place : goal.bounds-screen-place
bounds-screen-place c =
    let below = (lowest c.args.screen.now.lines c.empty_line.ensures c.in-Some-empty_line.is).within in
    let sixteen : length c.args.screen.now.lines ≡ 16 = search rules in
    omega (arith, below, sixteen)

pub offset_bounds-screen-place : goal.offset_bounds-screen-place
offset_bounds-screen-place c =
    let below = (lowest c.args.screen.now.lines c.empty_line.ensures c.in-Some-empty_line.is).within in
    let sixteen : length c.args.screen.now.lines ≡ 16 = search rules in
    search rules
