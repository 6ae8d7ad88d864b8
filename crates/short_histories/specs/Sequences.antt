-- Sequences of numbers in which no event is refused, of whatever step accepts or refuses a number and leads to the next
-- state (document 02, slip 10).
use Rattle.std.specs.Prelude.{ℕ, zero, suc, ◌≡◌, ◌≤◌, Bool, true, false, ◌&&◌, ◌||◌, cond, List, [], ◌∷◌, ◌++◌, map, flat_map, eqb, ltb, length}
use mathlib.Core.List.{Memᴰ}
use Rattle.octets.specs.Lists.{any, all}

-- "numbered 0 to 5"
abbrev pub event_numbers : List ℕ
event_numbers = 0 ∷ 1 ∷ 2 ∷ 3 ∷ 4 ∷ 5 ∷ []

module _ {S : Type 0} (accepts : S → ℕ → Bool) (after : S → ℕ → S) where
  -- "no event is refused"
  unfoldable pub none_refused : S → List ℕ → Bool
  none_refused s [] = true
  none_refused s (n ∷ ns) = accepts s n && none_refused (after s n) ns

  -- the sequences of so many numbers in which none is refused, "in order of the numbers, compared from the first"
  unfoldable pub of_length : ℕ → S → List (List ℕ)
  of_length zero s = [] ∷ []
  of_length (suc k) s = flat_map (λ (n : ℕ). cond (accepts s n) (map (λ (ns : List ℕ). n ∷ ns) (of_length k (after s n))) []) event_numbers

  -- "every sequence of at most four of them .., the empty one included. Shorter ones come first"
  unfoldable pub up_to : ℕ → S → List (List ℕ)
  up_to zero s = of_length zero s
  up_to (suc k) s = up_to k s ++ of_length (suc k) s

-- of two sequences of one length: the lower number where they first differ, "compared from the first"
abbrev pub lower : List ℕ → List ℕ → Bool
lower [] ms = false
lower (n ∷ ns) [] = false
lower (n ∷ ns) (m ∷ ms) = ltb n m || (eqb n m && lower ns ms)

-- "Shorter ones come first, then in order of the numbers": whether one sequence comes before another
abbrev pub precedes : List ℕ → List ℕ → Bool
precedes ns ms = ltb (length ns) (length ms) || (eqb (length ns) (length ms) && lower ns ms)

-- one of the six
abbrev pub is_event_number : ℕ → Bool
is_event_number n = any (eqb n) event_numbers

-- the statement, of sequences of at most so many numbers from a state on
pub record ListsAll {S : Type 0} (accepts : S → ℕ → Bool) (after : S → ℕ → S) (most : ℕ) (s : S) (list : List (List ℕ)) : Type 0 where
  -- "none is missing"
  pub none_missing : (ns : List ℕ) → length ns ≤ most → all is_event_number ns ≡ true → none_refused accepts after s ns ≡ true → Memᴰ ns list
  -- and only such are in it
  pub only_such : (ns : List ℕ) → Memᴰ ns list → (length ns ≤ most) × (all is_event_number ns ≡ true) × (none_refused accepts after s ns ≡ true)
  -- "Shorter ones come first, then in order of the numbers, compared from the first."
  pub ascending : (before mid rest : List (List ℕ)) (ns ms : List ℕ) → list ≡ before ++ (ns ∷ (mid ++ (ms ∷ rest))) → precedes ns ms ≡ true
  -- "Each appears once"
  pub once : (before mid rest : List (List ℕ)) (ns : List ℕ) → list ≡ before ++ (ns ∷ (mid ++ (ns ∷ rest))) → ⊥
