-- The number of an empty row, by its fields. Assumes nothing.
use mathlib.Core.Path.{◌≡◌, refl}
use mathlib.Core.Bool.{Bool, true, false, ◌&&◌}
use lib.Dec.{eqb}
use lib.ListN.{length}
use Rattle.board.specs.declared.PartyNumber.{PartyNumber}
use Rattle.board.specs.Soundness.{zeros, zero_number}

pub zero_is : (n : PartyNumber) → length n.digits ≡ 15 →
    (eqb n.presentation 0 && (eqb n.type_of_number 0 && (eqb n.count 0 && zeros n.digits))) ≡ zero_number n
zero_is n h = rw h (go (eqb n.presentation 0) (eqb n.type_of_number 0))
  where
    go : (a b : Bool) → (a && (b && (eqb n.count 0 && zeros n.digits))) ≡ ((a && b && eqb n.count 0) && zeros n.digits)
    go true true = refl
    go true false = refl
    go false b = refl
