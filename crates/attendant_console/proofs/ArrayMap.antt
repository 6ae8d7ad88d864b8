-- What the `map` of an array gives where each call of its closure gives a function of the element.
use Prim.{tt}
use Prim.Native.Nat.{ℕ, suc, ◌<◌}
use native.Mathlib.Omega.{arith}
use mathlib.Core.Path.{◌≡◌, refl, ap₂, ◌∙◌, sym}
use mathlib.Core.List.{List, [], ◌∷◌, map}
use lib.ListN.{length, get_or}
use denote.Param.Members.{Mut, Called}
use Rattle.std.specs.Array.{IsMapOf}

module _ {A B : Type 0} (h : A → B) where
  by_places : (xs : List A) (ys : List B) → length ys ≡ length xs → ((i : ℕ) (d : A) (e : B) → i < length xs → get_or ys i e ≡ h (get_or xs i d)) → ys ≡ map h xs
  by_places [] [] l at = refl
  by_places [] (y ∷ ys) l at = absurd (omega arith)
  by_places (x ∷ xs) [] l at = absurd (omega arith)
  by_places (x ∷ xs) (y ∷ ys) l at = ap₂ (λ (z : B) (zs : List B). z ∷ zs) (at 0 x y (omega arith)) (by_places xs ys (omega arith) (λ i d e b. at (suc i) d e (omega arith)))

  pub mapped : {F : Type 0} (g : Mut F (A × Unit {0}) B) (f : F) (xs : List A) (ys : List B) (n : ℕ) → length xs ≡ n → IsMapOf g f xs ys n →
      ((p q : F) (x : A) (y : B) → Called g p (x, tt) y q → y ≡ h x) → ys ≡ map h xs
  mapped g f xs ys n l m each = by_places xs ys (m.long ∙ sym l) (λ i d e b. let c = m.at i d e (omega arith) in each c.0 c.1 (get_or xs i d) (get_or ys i e) c.2)
