-- Laws of loops over a list, one step at a time, and of tests of what `filter_map` gives of a list: they turn a loop over rows into a test of entries.
use Rattle.std.specs.Prelude.{None, Option, Some}
use Prim.Native.Nat.{ℕ, suc, ◌+◌, ◌≤◌, ◌<◌}
use native.Mathlib.Numerals.{add-one}
use native.Mathlib.Omega.{arith}
use mathlib.Core.Path.{◌≡◌, refl, ap, ap₂}
use mathlib.Core.Bool.{Bool, true, false, ◌&&◌, ◌||◌, not}
use mathlib.Core.List.{List, [], ◌∷◌, Memᴰ}
use lib.ListN.{length, get_or, drop, drop_of_length-le}
use lib.Seq.{drop-cons}
use Rattle.octets.specs.Lists.{any, all, cons_if, filter, distinct, cons_opt, filter_map}
use Rattle.octets.specs.Tests.{has, none_or, has_both, bit}
use Rattle.octets.proofs.Lists.{any_ext}

-- ---- what a loop has before it: the element at its place, and then the rest

-- at place i the list ys has x
pub record Step {A : Type 0} (ys : List A) (i : ℕ) (x : A) : Type 0 where
  pub split : drop i ys ≡ x ∷ drop (i + 1) ys

-- from place i on the list ys has nothing
pub record Past {A : Type 0} (ys : List A) (i : ℕ) : Type 0 where
  pub rest : drop i ys ≡ []

module _ {A : Type 0} where
  pub step_at : (ys : List A) (i : ℕ) (d : A) → i < length ys → Step ys i (get_or ys i d)
  step_at ys i d h = record { split = rw add-one (drop-cons ys i d h) }

  pub past_end : (ys : List A) (i : ℕ) → length ys ≤ i → Past ys i
  past_end ys i h = record { rest = drop_of_length-le ys h }

-- ---- a loop that counts

-- n of the first i elements pass p
pub record Counting {A : Type 0} (p : A → Bool) (ys : List A) (i n : ℕ) : Type 0 where
  pub within : n ≤ i
  pub total : n + length (filter p (drop i ys)) ≡ length (filter p ys)

bit_le : (b : Bool) → bit b ≤ 1
bit_le true = omega arith
bit_le false = omega arith

module _ {A : Type 0} where
  length_cons_if : (b : Bool) (x : A) (l : List A) → length (cons_if b x l) ≡ bit b + length l
  length_cons_if true x l = omega arith
  length_cons_if false x l = omega arith

  pub count_step : {p : A → Bool} {ys : List A} {i n : ℕ} {x : A} → Step ys i x → (k : ℕ) → k ≡ bit (p x) → Counting p ys i n → Counting p ys (i + 1) (n + k)
  count_step {p} {ys} {i} {n} {x} s k e t =
      let l = bit_le (p x) in
      let c : length (filter p (drop i ys)) ≡ bit (p x) + length (filter p (drop (i + 1) ys)) = rw s.split (length_cons_if (p x) x (filter p (drop (i + 1) ys))) in
      record { within = omega (arith, t.within); total = omega (arith, t.total) }

  pub count_end : {p : A → Bool} {ys : List A} {i n : ℕ} → Past ys i → Counting p ys i n → n ≡ length (filter p ys)
  count_end {p} {ys} {i} {n} s t =
      let c : length (filter p (drop i ys)) ≡ 0 = rw s.rest in
      omega (arith, t.total)

-- for a loop that counts in columns
pub ruleset counting = (step_at, past_end, count_step, count_end)

-- ---- tests of what `filter_map` gives

module _ {A B : Type 0} (f : A → Option B) where
  pub all_filter_map : (p : B → Bool) (l : List A) → all p (filter_map f l) ≡ all (λ (x : A). none_or p (f x)) l
  all_filter_map p [] = refl
  all_filter_map p (x ∷ l) = go (f x) (all_filter_map p l)
    where
      go : (o : Option B) → all p (filter_map f l) ≡ all (λ (x : A). none_or p (f x)) l → all p (cons_opt o (filter_map f l)) ≡ (none_or p o && all (λ (x : A). none_or p (f x)) l)
      go None e = e
      go (Some y) e = ap (λ (b : Bool). p y && b) e

  pub any_filter_map : (p : B → Bool) (l : List A) → any p (filter_map f l) ≡ any (λ (x : A). has p (f x)) l
  any_filter_map p [] = refl
  any_filter_map p (x ∷ l) = go (f x) (any_filter_map p l)
    where
      go : (o : Option B) → any p (filter_map f l) ≡ any (λ (x : A). has p (f x)) l → any p (cons_opt o (filter_map f l)) ≡ (has p o || any (λ (x : A). has p (f x)) l)
      go None e = e
      go (Some y) e = ap (λ (b : Bool). p y || b) e

  any_none : (t : B → B → Bool) (l : List A) → any (λ (x : A). has_both t None (f x)) l ≡ false
  any_none t [] = refl
  any_none t (x ∷ l) = any_none t l

  any_some : (t : B → B → Bool) (y : B) (l : List A) → any (t y) (filter_map f l) ≡ any (λ (x : A). has_both t (Some y) (f x)) l
  any_some t y [] = refl
  any_some t y (x ∷ l) = go (f x) (any_some t y l)
    where
      go : (o : Option B) → any (t y) (filter_map f l) ≡ any (λ (x : A). has_both t (Some y) (f x)) l → any (t y) (cons_opt o (filter_map f l)) ≡ (has_both t (Some y) o || any (λ (x : A). has_both t (Some y) (f x)) l)
      go None e = e
      go (Some z) e = ap (λ (b : Bool). t y z || b) e

  pub distinct_filter_map : (t : B → B → Bool) (l : List A) → distinct t (filter_map f l) ≡ distinct (λ (x y : A). has_both t (f x) (f y)) l
  distinct_filter_map t [] = refl
  distinct_filter_map t (x ∷ l) = go (f x) (distinct_filter_map t l)
    where
      go : (o : Option B) → distinct t (filter_map f l) ≡ distinct (λ (x y : A). has_both t (f x) (f y)) l →
          distinct t (cons_opt o (filter_map f l)) ≡ (not (any (λ (y : A). has_both t o (f y)) l) && distinct (λ (x y : A). has_both t (f x) (f y)) l)
      go None e = rw (any_none t l) e
      go (Some y) e = ap₂ (λ (b c : Bool). not b && c) (any_some t y l) e

  pub length_filter_filter_map : (p : B → Bool) (l : List A) → length (filter p (filter_map f l)) ≡ length (filter (λ (x : A). has p (f x)) l)
  length_filter_filter_map p [] = refl
  length_filter_filter_map p (x ∷ l) = go (f x) (length_filter_filter_map p l)
    where
      same : (b : Bool) (y : B) → length (filter p (filter_map f l)) ≡ length (filter (λ (x : A). has p (f x)) l) →
          length (cons_if b y (filter p (filter_map f l))) ≡ length (cons_if b x (filter (λ (x : A). has p (f x)) l))
      same true y e = ap suc e
      same false y e = e

      go : (o : Option B) → length (filter p (filter_map f l)) ≡ length (filter (λ (x : A). has p (f x)) l) →
          length (filter p (cons_opt o (filter_map f l))) ≡ length (cons_if (has p o) x (filter (λ (x : A). has p (f x)) l))
      go None e = e
      go (Some y) e = same (p y) y e

  pub length_filter_map : (l : List A) → length (filter_map f l) ≡ length (filter (λ (x : A). has (λ (y : B). true) (f x)) l)
  length_filter_map [] = refl
  length_filter_map (x ∷ l) = go (f x) (length_filter_map l)
    where
      go : (o : Option B) → length (filter_map f l) ≡ length (filter (λ (x : A). has (λ (y : B). true) (f x)) l) →
          length (cons_opt o (filter_map f l)) ≡ length (cons_if (has (λ (y : B). true) o) x (filter (λ (x : A). has (λ (y : B). true) (f x)) l))
      go None e = e
      go (Some y) e = ap suc e

-- ---- two tests in one

and_mix : (a b c d : Bool) → (a && b && (c && d)) ≡ (a && c && (b && d))
and_mix true true c d = refl
and_mix true false true d = refl
and_mix true false false d = refl
and_mix false b c d = refl

or_mix : (a b c d : Bool) → (a || b || (c || d)) ≡ (a || c || (b || d))
or_mix true b c d = refl
or_mix false true true d = refl
or_mix false true false d = refl
or_mix false false c d = refl

not_or : (a b c d : Bool) → (not (a || b) && (c && d)) ≡ (not a && c && (not b && d))
not_or true b c d = refl
not_or false true true d = refl
not_or false true false d = refl
not_or false false c d = refl

module _ {A : Type 0} where
  pub all_and : (p q : A → Bool) (l : List A) → all (λ (x : A). p x && q x) l ≡ (all p l && all q l)
  all_and p q [] = refl
  all_and p q (x ∷ l) = rw (all_and p q l) (and_mix (p x) (q x) (all p l) (all q l))

  pub any_or : (p q : A → Bool) (l : List A) → any (λ (x : A). p x || q x) l ≡ (any p l || any q l)
  any_or p q [] = refl
  any_or p q (x ∷ l) = rw (any_or p q l) (or_mix (p x) (q x) (any p l) (any q l))

  pub distinct_or : (s t : A → A → Bool) (l : List A) → distinct (λ (x y : A). s x y || t x y) l ≡ (distinct s l && distinct t l)
  distinct_or s t [] = refl
  distinct_or s t (x ∷ l) = rw (distinct_or s t l, any_or (s x) (t x) l) (not_or (any (s x) l) (any (t x) l) (distinct s l) (distinct t l))

  pub distinct_ext : (s t : A → A → Bool) (l : List A) → ((x y : A) → s x y ≡ t x y) → distinct s l ≡ distinct t l
  distinct_ext s t [] h = refl
  distinct_ext s t (x ∷ l) h = ap₂ (λ (b c : Bool). not b && c) (any_ext (s x) (t x) l (h x)) (distinct_ext s t l h)

  pub any_and : (c : Bool) (q : A → Bool) (l : List A) → any (λ (x : A). c && q x) l ≡ (c && any q l)
  any_and true q l = refl
  any_and false q [] = refl
  any_and false q (x ∷ l) = any_and false q l

  -- two tests that agree on the elements
  pub all_same : (p q : A → Bool) (l : List A) → ((x : A) → Memᴰ x l → p x ≡ q x) → all p l ≡ all q l
  all_same p q [] h = refl
  all_same p q (x ∷ l) h = ap₂ ◌&&◌ (h x (Memᴰ.head refl)) (all_same p q l (λ y m. h y (Memᴰ.tail m)))
