-- The test of two lists that slices have is the one that definitions speak of. Assumes nothing.
use Prim.Native.Nat.{ℕ}
use mathlib.Core.Path.{◌≡◌, refl, ap}
use mathlib.Core.List.{List, [], ◌∷◌}
use mathlib.Core.Bool.{Bool, ◌&&◌}
use lib.Dec.{eqb}
use lib.Pointwise.{pointwise}
use Rattle.octets.specs.Lists.{same_octets}

pub pointwise_same : (s t : List ℕ) → pointwise eqb s t ≡ same_octets s t
pointwise_same [] [] = refl
pointwise_same [] (y ∷ t) = refl
pointwise_same (x ∷ s) [] = refl
pointwise_same (x ∷ s) (y ∷ t) = ap (λ (b : Bool). eqb x y && b) (pointwise_same s t)
