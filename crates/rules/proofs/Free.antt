-- With fewer than 16 LinkIds live, one of the 16 values from the candidate upward is free, so a request for one is given it.
use Rattle.std.specs.Prelude.{None, Option, Some}
use Prim.Native.Nat.{◌+◌, ◌-◌, ◌<◌, ◌≤◌, suc, ℕ, zero, zero-le, suc-le-suc}
use native.Mathlib.Nat.{le_refl, le_step, le_trans}
use native.Mathlib.Omega.{arith}
use mathlib.Core.Path.{◌∙◌, refl, ap, ◌≡◌, sym}
use mathlib.Core.Logic.{◌⊎◌, inr, inl}
use mathlib.Core.Bool.{◌&&◌, ◌||◌, false, true, not, Bool, cond}
use mathlib.Core.List.{◌∷◌, List, []}
use lib.Dec.{eqb}
use lib.ListN.{length}
use lib.IntN.{ℤ, pos, negsuc}
use Rattle.board.specs.LinkIds.{free_link_id, unless_live, most_link_ids}
use Rattle.octets.proofs.Lists.{true_not_false, eqb_of, eqb_eq, test, neither, both, any_has, any_of, mem_filter, or_false, left, right, is_not}
use Rattle.octets.proofs.SameInteger.{same_integer_eq}
use Rattle.octets.specs.Lists.{all, any, distinct, filter, cons_if}
use Rattle.octets.specs.Numbers.{InInt16Range, next_link_id, same_integer}

-- ---- places of the LinkIds from 0 to 65535

abbrev rank : ℤ → ℕ
rank (pos n) = n + 32768
rank (negsuc n) = 32767 - n

rank_in_range : (z : ℤ) → InInt16Range z → rank z ≤ 65535
rank_in_range (pos n) h = omega arith
rank_in_range (negsuc n) h = omega arith

below : (n : ℕ) → n ≤ 32767 → eqb n 32767 ≡ false → suc n ≤ 32767
below n h e = let k : n ≡ 32767 → ⊥ = λ q. true_not_false (eqb_of n 32767 q) e in omega arith

next_in_range : (z : ℤ) → InInt16Range z → InInt16Range (next_link_id z)
next_in_range (pos n) h = go (eqb n 32767) refl
  where
    go : (b : Bool) → eqb n 32767 ≡ b → InInt16Range (cond b (negsuc 32767) (pos (suc n)))
    go true e = le_refl 32767
    go false e = below n h e
next_in_range (negsuc zero) h = zero-le
next_in_range (negsuc (suc n)) h = omega arith

next_rank : (z : ℤ) → InInt16Range z → (rank (next_link_id z) ≡ rank z + 1) ⊎ ((rank (next_link_id z) ≡ 0) × (rank z ≡ 65535))
next_rank (pos n) h = go (eqb n 32767) refl
  where
    go : (b : Bool) → eqb n 32767 ≡ b → (rank (cond b (negsuc 32767) (pos (suc n))) ≡ n + 32768 + 1) ⊎ ((rank (cond b (negsuc 32767) (pos (suc n))) ≡ 0) × (n + 32768 ≡ 65535))
    go true e = let k : n ≡ 32767 = eqb_eq n 32767 e in inr (refl, omega arith)
    go false e = inl (omega arith)
next_rank (negsuc zero) h = inl refl
next_rank (negsuc (suc n)) h = inl (omega arith)

-- y is i values after z
abbrev Later : ℕ → ℤ → ℤ → Type 0
Later i z y = (rank y ≡ rank z + i) ⊎ (rank y + 65536 ≡ rank z + i)

later_next : (i : ℕ) (z y : ℤ) → i ≤ 15 → InInt16Range z → InInt16Range y → Later i z y → Later (i + 1) z (next_link_id y)
later_next i z y k hz hy l = go l (next_rank y hy)
  where
    top : rank z ≤ 65535
    top = rank_in_range z hz

    go : (rank y ≡ rank z + i) ⊎ (rank y + 65536 ≡ rank z + i) → (rank (next_link_id y) ≡ rank y + 1) ⊎ ((rank (next_link_id y) ≡ 0) × (rank y ≡ 65535)) → Later (i + 1) z (next_link_id y)
    go (inl a) (inl b) = inl (omega arith)
    go (inl a) (inr b) = let b0 = b.0 in let b1 = b.1 in inr (omega arith)
    go (inr a) (inl b) = inr (omega arith)
    go (inr a) (inr b) = let t : rank z ≤ 65535 = top in let b1 = b.1 in absurd (omega arith)

apart : (i : ℕ) (z y : ℤ) → 1 ≤ i → i ≤ 15 → Later i z y → same_integer z y ≡ false
apart i z y h k l = go (test (same_integer z y))
  where
    clash : rank z ≡ rank y → (rank y ≡ rank z + i) ⊎ (rank y + 65536 ≡ rank z + i) → ⊥
    clash e (inl a) = omega arith
    clash e (inr a) = omega arith

    go : (same_integer z y ≡ true) ⊎ (same_integer z y ≡ false) → same_integer z y ≡ false
    go (inl t) = absurd (clash (ap rank (same_integer_eq z y t)) l)
    go (inr t) = t

-- ---- the values looked at

run : ℕ → ℤ → List ℤ
run zero z = []
run (suc n) z = z ∷ run n (next_link_id z)

run_length : (n : ℕ) (z : ℤ) → length (run n z) ≡ n
unfolding run
run_length zero z = refl
run_length (suc n) z = ap suc (run_length n (next_link_id z))

run_apart : (m i : ℕ) (z y : ℤ) → 1 ≤ i → i + m ≤ most_link_ids → InInt16Range z → InInt16Range y → Later i z y → any (same_integer z) (run m y) ≡ false
unfolding run
run_apart zero i z y h k hz hy l = refl
run_apart (suc m) i z y h k hz hy l =
    neither (apart i z y h (omega arith) l)
    (run_apart m (i + 1) z (next_link_id y) (omega arith) (omega arith) hz (next_in_range y hy) (later_next i z y (omega arith) hz hy l))

run_distinct : (n : ℕ) (z : ℤ) → n ≤ most_link_ids → InInt16Range z → distinct same_integer (run n z) ≡ true
unfolding run
run_distinct zero z k h = refl
run_distinct (suc n) z k h = both (ap not (run_apart n 1 z (next_link_id z) (le_refl 1) (omega arith) h (next_in_range z h) after)) (run_distinct n (next_link_id z) (omega arith) (next_in_range z h))
  where
    by : (rank (next_link_id z) ≡ rank z + 1) ⊎ ((rank (next_link_id z) ≡ 0) × (rank z ≡ 65535)) → Later 1 z (next_link_id z)
    by (inl a) = inl a
    by (inr a) = let a0 = a.0 in let a1 = a.1 in inr (omega arith)

    after : Later 1 z (next_link_id z)
    after = by (next_rank z h)

none_free : (n : ℕ) (z : ℤ) (used : List ℤ) → free_link_id n z used ≡ None → all (λ (y : ℤ). any (same_integer y) used) (run n z) ≡ true
unfolding run
none_free zero z used e = refl
none_free (suc n) z used e = go (any (same_integer z) used) refl e (none_free n (next_link_id z) used)
  where
    go : (b : Bool) → any (same_integer z) used ≡ b → unless_live b z (free_link_id n (next_link_id z) used) ≡ None → (free_link_id n (next_link_id z) used ≡ None → all (λ (y : ℤ). any (same_integer y) used) (run n (next_link_id z)) ≡ true) →
        (any (same_integer z) used && all (λ (y : ℤ). any (same_integer y) used) (run n (next_link_id z))) ≡ true
    go true h e f = both h (f e)
    go false h e f = let z : ◌≡◌ {A = ℕ} 0 1 = cc in absurd (omega arith)

-- ---- values that are all in a list, none twice, are no more than the list has

filter_le : (p : ℤ → Bool) (l : List ℤ) → length (filter p l) ≤ length l
filter_le p [] = zero-le
filter_le p (x ∷ l) = go (p x) (filter_le p l)
  where
    go : (b : Bool) → length (filter p l) ≤ length l → length (cons_if b x (filter p l)) ≤ suc (length l)
    go true h = suc-le-suc h
    go false h = le_step h

fewer : (p : ℤ → Bool) (l : List ℤ) → any p l ≡ true → length (filter (λ (x : ℤ). not (p x)) l) < length l
fewer p [] h = absurd (true_not_false h refl)
fewer p (x ∷ l) h = go (p x) h (fewer p l)
  where
    go : (b : Bool) → (b || any p l) ≡ true → (any p l ≡ true → length (filter (λ (x : ℤ). not (p x)) l) < length l) → length (cons_if (not b) x (filter (λ (x : ℤ). not (p x)) l)) < suc (length l)
    go true h f = suc-le-suc (filter_le (λ (x : ℤ). not (p x)) l)
    go false h f = suc-le-suc (f h)

still : (z y : ℤ) (used : List ℤ) → same_integer z y ≡ false → any (same_integer y) used ≡ true → any (same_integer y) (filter (λ (x : ℤ). not (same_integer z x)) used) ≡ true
still z y used h k =
    let r = any_has (same_integer y) used k in
    any_of (same_integer y) (mem_filter (λ (x : ℤ). not (same_integer z x)) r.1 (ap (λ (x : ℤ). not (same_integer z x)) (sym (same_integer_eq y r.0 r.2)) ∙ ap not h)) r.2

all_still : (z : ℤ) (ys used : List ℤ) → any (same_integer z) ys ≡ false → all (λ (y : ℤ). any (same_integer y) used) ys ≡ true → all (λ (y : ℤ). any (same_integer y) (filter (λ (x : ℤ). not (same_integer z x)) used)) ys ≡ true
all_still z [] used h k = refl
all_still z (y ∷ ys) used h k =
    let r = or_false (same_integer z y) (any (same_integer z) ys) h in
    both (still z y used r.0 (left (any (same_integer y) used) _ k)) (all_still z ys used r.1 (right (any (same_integer y) used) _ k))

no_more : (ys used : List ℤ) → distinct same_integer ys ≡ true → all (λ (y : ℤ). any (same_integer y) used) ys ≡ true → length ys ≤ length used
no_more [] used h k = zero-le
no_more (y ∷ ys) used h k =
    le_trans (suc-le-suc (no_more ys (filter (λ (x : ℤ). not (same_integer y x)) used) (right (not (any (same_integer y) ys)) _ h) (all_still y ys used (is_not (left (not (any (same_integer y) ys)) _ h)) (right (any (same_integer y) used) _ k))))
    (fewer (same_integer y) used (left (any (same_integer y) used) _ k))

-- with fewer than n live, n values hold one that is not
found : (n : ℕ) (z : ℤ) (used : List ℤ) → n ≤ most_link_ids → InInt16Range z → length used < n → (y : ℤ) × (free_link_id n z used ≡ Some y)
found n z used top h k = go (free_link_id n z used) refl
  where
    go : (o : Option ℤ) → free_link_id n z used ≡ o → (y : ℤ) × (free_link_id n z used ≡ Some y)
    go None e =
        let m : length (run n z) ≤ length used = no_more (run n z) used (run_distinct n z top h) (none_free n z used e) in
        let l : length (run n z) ≡ n = run_length n z in
        absurd (omega arith)
    go (Some y) e = (y, e)

module _ (z : ℤ) (used : List ℤ) (h : InInt16Range z) (few : length used < most_link_ids) where
  pub one_free : (y : ℤ) × (free_link_id most_link_ids z used ≡ Some y)
  one_free = found most_link_ids z used (le_refl most_link_ids) h few
