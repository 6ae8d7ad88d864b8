-- The one party that pairs with another, by what an iterator over the rows gives.
use Rattle.std.specs.Prelude.{None, Option, Some}
use Rattle.std.specs.List.{filter as library_filter, filter_map as library_filter_map, cons_option as library_cons}
use Rattle.std.specs.Iterator.{AlwaysYields}
use Rattle.std.specs.Bool.{then_some}
use Rattle.std.specs.Option.{is_some}
use Rattle.std.proofs.lemmas.Iterator.{YieldsList}
use mathlib.Core.Path.{◌∙◌, refl, sym, ap, ◌≡◌, subst}
use mathlib.Core.Bool.{true, Bool, false, cond, not}
use mathlib.Core.List.{◌∷◌, List, []}
use Rattle.board.proofs.Searches.{calls_of_rows}
use Rattle.board.specs.Entries.{calls, taken, row_party}
use Rattle.board.specs.declared.Party.{Party}
use Rattle.board.specs.declared.Row.{Row}
use Rattle.octets.proofs.Lists.{true_not_false}
use Rattle.octets.specs.Lists.{filter, filter_map, cons_if, cons_opt, only}

-- ---- the words over lists are those by which the library says what its iterators give

filter_is : {A : Type 0} (p : A → Bool) (xs : List A) → library_filter p xs ≡ filter p xs
filter_is p [] = refl
filter_is {A} p (x ∷ xs) = go (p x) (filter_is p xs)
  where
    go : (b : Bool) {l m : List A} → l ≡ m → cond b (x ∷ l) l ≡ cons_if b x m
    go true e = ap (λ l. x ∷ l) e
    go false e = e

filter_map_is : {A B : Type 0} (f : A → Option B) (xs : List A) → library_filter_map f xs ≡ filter_map f xs
filter_map_is f [] = refl
filter_map_is {A} {B} f (x ∷ xs) = go (f x) (filter_map_is f xs)
  where
    go : (o : Option B) {m : List B} → library_filter_map f xs ≡ m → library_cons o (library_filter_map f xs) ≡ cons_opt o m
    go None e = e
    go (Some y) e = ap (λ l. y ∷ l) e

pub kept_calls : (q : Party → Bool) (rows : List Row) → library_filter q (library_filter_map row_party rows) ≡ filter q (calls (taken rows))
kept_calls q rows = filter_is q (library_filter_map row_party rows) ∙ ap (filter q) (filter_map_is row_party rows ∙ sym (calls_of_rows rows))

-- ---- the only item, by the first two answers of the iterator

module _ {S A : Type 0} {steps : S → Option A → S → Type 0} {s : S} (t : S) where
  pub only_nowhere : (l : List A) {r : Option A} → steps s r t → r ≡ None → YieldsList steps (λ y. y) s l → None ≡ only l
  only_nowhere [] n h y = refl
  only_nowhere (x ∷ l) n h y = absurd (y.runs.0 t (subst (λ (o : Option A). steps s o t) h n))

  pub only_first : {x : A} {o : Option A} (r : Option A) (u : S) (l : List A) → steps s o t → o ≡ Some x → steps t r u → (b : Bool) → is_some r ≡ not b → YieldsList steps (λ y. y) s l → then_some b x ≡ only l
  only_first {x} {o} r u l k e n b q y = go l (subst (λ (v : Option A). steps s v t) e k) y.runs r n b q
    where
      go : (l : List A) → steps s (Some x) t → AlwaysYields steps (λ y. y) s l → (p : Option A) → steps t p u → (b : Bool) → is_some p ≡ not b → then_some b x ≡ only l
      go [] e y p n b q = absurd (y x t e)
      go (z ∷ []) e y None n true q = ap Some (y.1 x t e).0
      go (z ∷ (w ∷ l)) e y (Some v) n false q = refl
      go (z ∷ []) e y (Some v) n b q = absurd ((y.1 x t e).1 v u n)
      go (z ∷ (w ∷ l)) e y None n b q = absurd ((y.1 x t e).1.0 u n)
      go (z ∷ []) e y None n false q = absurd (true_not_false q refl)
      go (z ∷ (w ∷ l)) e y (Some v) n true q = absurd (true_not_false refl q)
