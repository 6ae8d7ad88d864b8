-- The words over lists are those by which the library says what its iterators give.
use Rattle.std.specs.Prelude.{Option, Some, position, find as library_find}
use Rattle.std.specs.List.{position_from}
use Rattle.std.proofs.lemmas.Iterator.Adapters.{position_from-zero}
use Prim.Native.Nat.{ℕ, suc, ◌+◌}
use native.Mathlib.Numerals.{add-one}
use mathlib.Core.Path.{◌≡◌, refl, ap, ◌∙◌}
use mathlib.Core.Bool.{Bool, true, false, cond}
use mathlib.Core.List.{List, [], ◌∷◌}
use Rattle.octets.specs.Lists.{find, place_from, or_else}

module _ {A : Type 0} (p : A → Bool) where
  one : {B : Type 0} (b : Bool) (x : B) (o q : Option B) → o ≡ q → cond b (Some x) o ≡ or_else b x q
  one true x o q e = refl
  one false x o q e = e

  pub find_is : (xs : List A) → library_find p xs ≡ find p xs
  find_is [] = refl
  find_is (x ∷ xs) = one (p x) x (library_find p xs) (find p xs) (find_is xs)

  from : (i : ℕ) (xs : List A) → position_from p i xs ≡ place_from p i xs
  unfolding place_from
  from i [] = refl
  from i (x ∷ xs) = one (p x) i (position_from p (i + 1) xs) (place_from p (suc i) xs) (ap (λ (n : ℕ). position_from p n xs) (add-one i) ∙ from (suc i) xs)

  pub position_is : (xs : List A) → position p xs ≡ place_from p 0 xs
  position_is xs = position_from-zero p xs ∙ from 0 xs
