use mathlib.Core.Path.{◌≡◌}
use Rattle.octets.proofs.Places.{changed_to}
use Rattle.attendant_console.specs.Code.Redrawing.{sought_by}
use Rattle.attendant_console.proofs.seek_for_all.Given as goal

abbrev pub invariant-loop-line : goal.invariant-loop-line
invariant-loop-line l = l.lines ≡ changed_to (sought_by l.shown) l.line-index l.initial.lines
