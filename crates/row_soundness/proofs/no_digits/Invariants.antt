use mathlib.Core.Path.{◌≡◌}
use mathlib.Core.Bool.{◌&&◌}
use lib.ListN.{drop}
use Rattle.board.specs.Soundness.{zeros}
use Rattle.row_soundness.proofs.no_digits.Given as goal

-- the digits read so far are zero, as `none` says, and what is left decides
abbrev pub invariant-loop-digit : goal.invariant-loop-digit
invariant-loop-digit l = (l.none && zeros (drop l.digit-index l.digits)) ≡ zeros l.digits
