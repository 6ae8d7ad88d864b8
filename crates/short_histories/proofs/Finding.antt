-- What is found at a place of a list made of others, and what finding it tells of the list.
use Rattle.std.specs.Prelude.{slice_get, Some}
use Prim.Native.Nat.{ℕ, zero, suc, ◌+◌, ◌≤◌}
use native.Mathlib.Omega.{arith}
use mathlib.Core.Path.{◌≡◌, refl, ap}
use mathlib.Core.List.{List, [], ◌∷◌, ◌++◌, map}
use lib.ListN.{length}
use Rattle.short_histories.specs.Code.Finding.{At, Beyond, found_in, or_in, under}

pub found_nil : (p : ℕ) → found_in p [] ≡ Beyond p
unfolding found_in
found_nil p = refl

pub found_append : (p : ℕ) (l m : List (List ℕ)) → found_in p (l ++ m) ≡ or_in (found_in p l) m
unfolding found_in
found_append p [] m = refl
found_append zero (ns ∷ l) m = refl
found_append (suc p) (ns ∷ l) m = found_append p l m

pub found_map : (n p : ℕ) (l : List (List ℕ)) → found_in p (map (λ (ns : List ℕ). n ∷ ns) l) ≡ under n (found_in p l)
unfolding found_in
found_map n p [] = refl
found_map n zero (ns ∷ l) = refl
found_map n (suc p) (ns ∷ l) = found_map n p l

-- as `slice_get` has it
pub got_at : (p : ℕ) (l : List (List ℕ)) {ns : List ℕ} → found_in p l ≡ At ns → slice_get l p ≡ Some ns
unfolding found_in
got_at p [] e = cc
got_at zero (ms ∷ l) {ns} e = let d : ms ≡ ns = cc in ap (λ (x : List ℕ). Some x) d
got_at (suc p) (ms ∷ l) e = got_at p l e

pub found_at : (p : ℕ) (l : List (List ℕ)) {ns : List ℕ} → found_in p l ≡ At ns →
    (before : List (List ℕ)) × (rest : List (List ℕ)) × (l ≡ before ++ (ns ∷ rest)) × (length before ≡ p)
unfolding found_in
found_at p [] e = cc
found_at zero (ms ∷ l) {ns} e = let d : ms ≡ ns = cc in ([], l, ap (λ (x : List ℕ). x ∷ l) d, refl)
found_at (suc p) (ms ∷ l) e = let r = found_at p l e in (ms ∷ r.0, r.1, ap (λ (m : List (List ℕ)). ms ∷ m) r.2, ap suc r.3)

pub found_beyond : (p : ℕ) (l : List (List ℕ)) {q : ℕ} → found_in p l ≡ Beyond q → (length l ≤ p) × (q + length l ≡ p)
unfolding found_in
found_beyond p [] {q} e = let d : p ≡ q = cc in (omega arith, omega arith)
found_beyond zero (ns ∷ l) e = cc
found_beyond (suc p) (ns ∷ l) e = let r = found_beyond p l e in (omega arith, omega arith)
