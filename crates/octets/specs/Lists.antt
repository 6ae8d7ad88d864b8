-- Tests, choices and searches over lists: what the rules mean by "some", "each", "without", "distinct" and "the first".
use Rattle.std.specs.Prelude.{ℕ, suc, Bool, true, false, ◌&&◌, not, List, [], ◌∷◌, eqb, None, Option, Some}
-- some element passes the test, and each element does
pub use Rattle.std.specs.List.{list_any as any, list_all as all}

module _ {A : Type 0} where
  abbrev pub cons_if : Bool → A → List A → List A
  cons_if true x xs = x ∷ xs
  cons_if false x xs = xs

  -- the elements that pass the test, in their order
  abbrev pub filter : (A → Bool) → List A → List A
  filter p [] = []
  filter p (x ∷ xs) = cons_if (p x) x (filter p xs)

  abbrev pub or_else : Bool → A → Option A → Option A
  or_else true x o = Some x
  or_else false x o = o

  -- the first element that passes the test
  abbrev pub find : (A → Bool) → List A → Option A
  find p [] = None
  find p (x ∷ xs) = or_else (p x) x (find p xs)

  -- the one element of a list that has just one
  abbrev pub only : List A → Option A
  only [] = None
  only (x ∷ []) = Some x
  only (x ∷ (y ∷ zs)) = None

  -- no two elements that are the same by the test
  abbrev pub distinct : (A → A → Bool) → List A → Bool
  distinct same [] = true
  distinct same (x ∷ xs) = not (any (same x) xs) && distinct same xs

  abbrev pub cons_opt : Option A → List A → List A
  cons_opt None ys = ys
  cons_opt (Some y) ys = y ∷ ys

module _ {A B : Type 0} where
  -- what f finds in the elements, in their order
  abbrev pub filter_map : (A → Option B) → List A → List B
  filter_map f [] = []
  filter_map f (x ∷ xs) = cons_opt (f x) (filter_map f xs)

module _ {A : Type 0} where
  -- the lowest place of an element that passes the test, the first element counted as i
  unfoldable pub place_from : (A → Bool) → ℕ → List A → Option ℕ
  place_from p i [] = None
  place_from p i (x ∷ xs) = or_else (p x) i (place_from p (suc i) xs)

-- two lists of octets are the same
abbrev pub same_octets : List ℕ → List ℕ → Bool
same_octets [] [] = true
same_octets [] (y ∷ ys) = false
same_octets (x ∷ xs) [] = false
same_octets (x ∷ xs) (y ∷ ys) = eqb x y && same_octets xs ys
