-- Laws of tests, filters and look-ups over lists, and of lists that differ in their order alone.
use Rattle.std.specs.Prelude.{None, Option, Some}
use Rattle.std.proofs.lemmas.Bool.{and_parts, not-true}
pub use Rattle.std.proofs.lemmas.Bool.{or_left, or_right, or_cases, or_parts as or_false, cases_Bool as test, eqb-true as eqb_eq, eq-eqb as eqb_of}
pub use Rattle.std.proofs.lemmas.List.Folds.{list_all-map as all_map}
use Prim.Native.Nat.{◌+◌, ◌≤◌, ℕ, suc, suc-le-suc, zero-le}
use native.Mathlib.Nat.{le_step, le_of_suc-le-suc, not-suc-le-zero, suc-ne-zero, le_refl}
use native.Mathlib.Omega.{arith}
use mathlib.Core.Path.{◌∙◌, ◌≡◌, ap, refl, subst, subst⁻¹, sym, ap₂}
use mathlib.Core.Logic.{◌⊎◌, inl, inr}
use mathlib.Core.Bool.{Bool, true, not, false, ◌&&◌, ◌||◌}
use mathlib.Core.List.{◌∷◌, List, Memᴰ, [], map}
use lib.Dec.{T, eqb, eqb_refl}
use lib.ListN.{length}
use Rattle.octets.specs.Lists.{any, all, cons_if, filter, find, or_else, cons_opt, only, filter_map, distinct}
use Rattle.octets.specs.Tests.{has}

-- ---- Bools

pub true_not_false : {b : Bool} → b ≡ true → b ≡ false → ⊥
true_not_false p q = let z : ◌≡◌ {A = ℕ} 0 1 = cc in omega arith

pub both : {a b : Bool} → a ≡ true → b ≡ true → (a && b) ≡ true
both {a} {b} p q = ap (λ (x : Bool). x && b) p ∙ q

pub left : (a b : Bool) → (a && b) ≡ true → a ≡ true
left a b t = (and_parts a b t).0

pub right : (a b : Bool) → (a && b) ≡ true → b ≡ true
right a b t = (and_parts a b t).1

pub is_true : (b : Bool) → T b → b ≡ true
is_true true t = refl
is_true false t = absurd t

pub from_true : {b : Bool} → b ≡ true → T b
from_true e = subst⁻¹ T e tt

pub is_not : {b : Bool} → not b ≡ true → b ≡ false
is_not {b} t = not-true b t

pub same_tests : {a b : Bool} → (a ≡ true → b ≡ true) → (b ≡ true → a ≡ true) → a ≡ b
same_tests {a = true} {b} f g = sym (f refl)
same_tests {a = false} {b = true} f g = g refl
same_tests {a = false} {b = false} f g = refl

pub neither : {a b : Bool} → a ≡ false → b ≡ false → (a || b) ≡ false
neither {a} {b} p q = ap (λ (x : Bool). x || b) p ∙ q

pub or_swap : (a b c : Bool) → (a || (b || c)) ≡ (b || (a || c))
or_swap true true c = refl
or_swap true false c = refl
or_swap false true c = refl
or_swap false false c = refl

pub and_swap : (a b c : Bool) → (a && (b && c)) ≡ (b && (a && c))
and_swap true true c = refl
and_swap true false c = refl
and_swap false true c = refl
and_swap false false c = refl

-- ---- equal numbers

pub eqb_self : (n : ℕ) → eqb n n ≡ true
eqb_self n = is_true (eqb n n) (eqb_refl n)

pub eqb_sym : (m n : ℕ) → eqb m n ≡ eqb n m
eqb_sym m n = same_tests (λ t. eqb_of n m (sym (eqb_eq m n t))) (λ t. eqb_of m n (sym (eqb_eq n m t)))

-- ---- tests over a list, by membership

module _ {A : Type 0} where
  pub any_of : (p : A → Bool) {x : A} {l : List A} → Memᴰ x l → p x ≡ true → any p l ≡ true
  any_of p (Memᴰ.head {x = y} {xs = ys} e) t = or_left (p y) (any p ys) (ap p (sym e) ∙ t)
  any_of p (Memᴰ.tail {x = y} {xs = ys} m) t = or_right (p y) (any p ys) (any_of p m t)

  pub any_has : (p : A → Bool) (l : List A) → any p l ≡ true → (x : A) × Memᴰ x l × (p x ≡ true)
  any_has p [] t = absurd (true_not_false t refl)
  any_has p (x ∷ l) t = go (or_cases (p x) (any p l) t) (any_has p l)
    where
      go : (p x ≡ true) ⊎ (any p l ≡ true) → (any p l ≡ true → (y : A) × Memᴰ y l × (p y ≡ true)) → (y : A) × Memᴰ y (x ∷ l) × (p y ≡ true)
      go (inl u) f = (x, Memᴰ.head refl, u)
      go (inr u) f = let r = f u in (r.0, Memᴰ.tail r.1, r.2)

  pub all_at : (p : A → Bool) {x : A} {l : List A} → Memᴰ x l → all p l ≡ true → p x ≡ true
  all_at p (Memᴰ.head {x = y} {xs = ys} e) t = ap p e ∙ left (p y) (all p ys) t
  all_at p (Memᴰ.tail {x = y} {xs = ys} m) t = all_at p m (right (p y) (all p ys) t)

  pub all_by : (p : A → Bool) (l : List A) → ((x : A) → Memᴰ x l → p x ≡ true) → all p l ≡ true
  all_by p [] f = refl
  all_by p (x ∷ l) f = both (f x (Memᴰ.head refl)) (all_by p l (λ y m. f y (Memᴰ.tail m)))

  pub none_of : (p : A → Bool) {x : A} {l : List A} → Memᴰ x l → any p l ≡ false → p x ≡ false
  none_of p {x} {l} m t = go (test (p x))
    where
      go : (p x ≡ true) ⊎ (p x ≡ false) → p x ≡ false
      go (inl u) = absurd (true_not_false (any_of p m u) t)
      go (inr u) = u

  pub none_by : (p : A → Bool) (l : List A) → ((x : A) → Memᴰ x l → p x ≡ false) → any p l ≡ false
  none_by p [] f = refl
  none_by p (x ∷ l) f = neither (f x (Memᴰ.head refl)) (none_by p l (λ y m. f y (Memᴰ.tail m)))

  pub all_ext : (p q : A → Bool) (l : List A) → ((x : A) → p x ≡ q x) → all p l ≡ all q l
  all_ext p q [] f = refl
  all_ext p q (x ∷ l) f = ap₂ ◌&&◌ (f x) (all_ext p q l f)

  pub any_ext : (p q : A → Bool) (l : List A) → ((x : A) → p x ≡ q x) → any p l ≡ any q l
  any_ext p q [] f = refl
  any_ext p q (x ∷ l) f = ap₂ ◌||◌ (f x) (any_ext p q l f)

  -- ---- membership

  pub cons_if_mem : (b : Bool) {x y : A} {l : List A} → Memᴰ y (cons_if b x l) → ((b ≡ true) × (y ≡ x)) ⊎ Memᴰ y l
  cons_if_mem true (Memᴰ.head e) = inl (refl, e)
  cons_if_mem true (Memᴰ.tail m) = inr m
  cons_if_mem false m = inr m

  pub cons_if_later : (b : Bool) (x : A) {y : A} {l : List A} → Memᴰ y l → Memᴰ y (cons_if b x l)
  cons_if_later true x m = Memᴰ.tail m
  cons_if_later false x m = m

  pub filter_mem : (p : A → Bool) (l : List A) {y : A} → Memᴰ y (filter p l) → Memᴰ y l × (p y ≡ true)
  filter_mem p [] m = elim m [ ]
  filter_mem p (x ∷ l) {y} m = go (cons_if_mem (p x) m) (filter_mem p l {y = y})
    where
      go : ((p x ≡ true) × (y ≡ x)) ⊎ Memᴰ y (filter p l) → (Memᴰ y (filter p l) → Memᴰ y l × (p y ≡ true)) → Memᴰ y (x ∷ l) × (p y ≡ true)
      go (inl h) f = (Memᴰ.head h.1, ap p h.1 ∙ h.0)
      go (inr h) f = let r = f h in (Memᴰ.tail r.0, r.1)

  pub mem_filter : (p : A → Bool) {y : A} {l : List A} → Memᴰ y l → p y ≡ true → Memᴰ y (filter p l)
  mem_filter p {y} (Memᴰ.head {x = x} {xs = l} e) t = go (p x) (ap p (sym e) ∙ t)
    where
      go : (b : Bool) → b ≡ true → Memᴰ y (cons_if b x (filter p l))
      go true u = Memᴰ.head e
      go false u = absurd (true_not_false u refl)
  mem_filter p (Memᴰ.tail {x = x} m) t = cons_if_later (p x) x (mem_filter p m t)

  pub find_mem : (p : A → Bool) (l : List A) {y : A} → find p l ≡ Some y → Memᴰ y l × (p y ≡ true)
  find_mem p [] {y} e = let z : ◌≡◌ {A = ℕ} 0 1 = cc in absurd (omega arith)
  find_mem p (x ∷ l) {y} e = go (p x) refl e (find_mem p l {y = y})
    where
      go : (b : Bool) → p x ≡ b → or_else b x (find p l) ≡ Some y → (find p l ≡ Some y → Memᴰ y l × (p y ≡ true)) → Memᴰ y (x ∷ l) × (p y ≡ true)
      go true h e f = let d : x ≡ y = cc in (Memᴰ.head (sym d), ap p (sym d) ∙ h)
      go false h e f = let r = f e in (Memᴰ.tail r.0, r.1)

  -- an element for which the test fails in all of the list is kept nowhere
  pub filter_none : (p : A → Bool) (l : List A) → any p l ≡ false → filter p l ≡ []
  filter_none p [] t = refl
  filter_none p (x ∷ l) t = go (p x) (or_false (p x) (any p l) t).0 (filter_none p l (or_false (p x) (any p l) t).1)
    where
      go : (b : Bool) → b ≡ false → filter p l ≡ [] → cons_if b x (filter p l) ≡ []
      go true u e = absurd (true_not_false refl u)
      go false u e = e

  pub filter_ext : (p q : A → Bool) (l : List A) → ((x : A) → p x ≡ q x) → filter p l ≡ filter q l
  filter_ext p q [] f = refl
  filter_ext p q (x ∷ l) f = ap₂ (λ (b : Bool) (r : List A). cons_if b x r) (f x) (filter_ext p q l f)

  unfoldable pub head_of : List A → Option A
  head_of [] = None
  head_of (x ∷ l) = Some x

  pub find_filter : (p : A → Bool) (l : List A) → find p l ≡ head_of (filter p l)
  unfolding head_of
  find_filter p [] = refl
  find_filter p (x ∷ l) = go (p x) (find_filter p l)
    where
      go : (b : Bool) → find p l ≡ head_of (filter p l) → or_else b x (find p l) ≡ head_of (cons_if b x (filter p l))
      go true e = refl
      go false e = e

-- ---- lists that differ in their order alone

pub data Perm {A : Type 0} : List A → List A → Type 0 where
  p_nil : Perm [] []
  p_skip : {x : A} {l m : List A} → Perm l m → Perm (x ∷ l) (x ∷ m)
  p_swap : {x y : A} {l : List A} → Perm (x ∷ (y ∷ l)) (y ∷ (x ∷ l))
  p_trans : {l m n : List A} → Perm l m → Perm m n → Perm l n

module _ {A : Type 0} where
  pub p_refl : (l : List A) → Perm l l
  p_refl [] = p_nil
  p_refl (x ∷ l) = p_skip (p_refl l)

  pub p_of : {l m : List A} → l ≡ m → Perm l m
  p_of {l} e = subst (λ (r : List A). Perm l r) e (p_refl l)

  pub p_sym : {l m : List A} → Perm l m → Perm m l
  p_sym p_nil = p_nil
  p_sym (p_skip p) = p_skip (p_sym p)
  p_sym p_swap = p_swap
  p_sym (p_trans p q) = p_trans (p_sym q) (p_sym p)

  pub length_perm : {l m : List A} → Perm l m → length l ≡ length m
  length_perm p_nil = refl
  length_perm (p_skip p) = ap suc (length_perm p)
  length_perm p_swap = refl
  length_perm (p_trans p q) = length_perm p ∙ length_perm q

  pub any_perm : (p : A → Bool) {l m : List A} → Perm l m → any p l ≡ any p m
  any_perm p p_nil = refl
  any_perm p (p_skip {x = x} h) = ap (λ (b : Bool). p x || b) (any_perm p h)
  any_perm p (p_swap {x = x} {y = y} {l = l}) = or_swap (p x) (p y) (any p l)
  any_perm p (p_trans h k) = any_perm p h ∙ any_perm p k

  pub all_perm : (p : A → Bool) {l m : List A} → Perm l m → all p l ≡ all p m
  all_perm p p_nil = refl
  all_perm p (p_skip {x = x} h) = ap (λ (b : Bool). p x && b) (all_perm p h)
  all_perm p (p_swap {x = x} {y = y} {l = l}) = and_swap (p x) (p y) (all p l)
  all_perm p (p_trans h k) = all_perm p h ∙ all_perm p k

  pub mem_perm : {x : A} {l m : List A} → Perm l m → Memᴰ x l → Memᴰ x m
  mem_perm p_nil h = h
  mem_perm {x} (p_skip {x = y} {l = l} {m = m} p) h = go h (mem_perm {x = x} p)
    where
      go : Memᴰ x (y ∷ l) → (Memᴰ x l → Memᴰ x m) → Memᴰ x (y ∷ m)
      go (Memᴰ.head e) f = Memᴰ.head e
      go (Memᴰ.tail k) f = Memᴰ.tail (f k)
  mem_perm {x} (p_swap {x = a} {y = b} {l = l}) h = go h
    where
      go₂ : Memᴰ x (b ∷ l) → Memᴰ x (b ∷ (a ∷ l))
      go₂ (Memᴰ.head e) = Memᴰ.head e
      go₂ (Memᴰ.tail k) = Memᴰ.tail (Memᴰ.tail k)

      go : Memᴰ x (a ∷ (b ∷ l)) → Memᴰ x (b ∷ (a ∷ l))
      go (Memᴰ.head e) = Memᴰ.tail (Memᴰ.head e)
      go (Memᴰ.tail k) = go₂ k
  mem_perm (p_trans p q) h = mem_perm q (mem_perm p h)

  cons_if_perm : (b : Bool) (x : A) {l m : List A} → Perm l m → Perm (cons_if b x l) (cons_if b x m)
  cons_if_perm true x p = p_skip p
  cons_if_perm false x p = p

  cons_if_swap : (a b : Bool) (x y : A) (l : List A) → Perm (cons_if a x (cons_if b y l)) (cons_if b y (cons_if a x l))
  cons_if_swap true true x y l = p_swap
  cons_if_swap true false x y l = p_refl (x ∷ l)
  cons_if_swap false true x y l = p_refl (y ∷ l)
  cons_if_swap false false x y l = p_refl l

  pub filter_perm : (p : A → Bool) {l m : List A} → Perm l m → Perm (filter p l) (filter p m)
  filter_perm p p_nil = p_nil
  filter_perm p (p_skip {x = x} h) = cons_if_perm (p x) x (filter_perm p h)
  filter_perm p (p_swap {x = x} {y = y} {l = l}) = cons_if_swap (p x) (p y) x y (filter p l)
  filter_perm p (p_trans h k) = p_trans (filter_perm p h) (filter_perm p k)

  cons_opt_perm : (o : Option A) {l m : List A} → Perm l m → Perm (cons_opt o l) (cons_opt o m)
  cons_opt_perm None p = p
  cons_opt_perm (Some x) p = p_skip p

  cons_opt_swap : (o u : Option A) (l : List A) → Perm (cons_opt o (cons_opt u l)) (cons_opt u (cons_opt o l))
  cons_opt_swap None None l = p_refl l
  cons_opt_swap None (Some y) l = p_refl (y ∷ l)
  cons_opt_swap (Some x) None l = p_refl (x ∷ l)
  cons_opt_swap (Some x) (Some y) l = p_swap

  pub small_perm : {l m : List A} → Perm l m → length l ≤ 1 → l ≡ m
  small_perm p_nil h = refl
  small_perm (p_skip {x = x} p) h = ap (λ (r : List A). x ∷ r) (small_perm p (le_step (le_of_suc-le-suc h)))
  small_perm p_swap h = absurd (not-suc-le-zero (le_of_suc-le-suc h))
  small_perm (p_trans p q) h = small_perm p h ∙ small_perm q (subst (λ (n : ℕ). n ≤ 1) (length_perm p) h)

  pub find_perm : (p : A → Bool) {l m : List A} → Perm l m → length (filter p l) ≤ 1 → find p l ≡ find p m
  find_perm p {l} {m} h k = find_filter p l ∙ ap head_of (small_perm (filter_perm p h) k) ∙ sym (find_filter p m)

  only_skip : (x : A) (l m : List A) → length l ≡ length m → only (x ∷ l) ≡ only (x ∷ m)
  only_skip x [] [] e = refl
  only_skip x [] (y ∷ m) e = absurd (suc-ne-zero _ (sym e))
  only_skip x (y ∷ l) [] e = absurd (suc-ne-zero _ e)
  only_skip x (y ∷ l) (z ∷ m) e = refl

  pub only_perm : {l m : List A} → Perm l m → only l ≡ only m
  only_perm p_nil = refl
  only_perm (p_skip {x = x} {l = l} {m = m} p) = only_skip x l m (length_perm p)
  only_perm p_swap = refl
  only_perm (p_trans p q) = only_perm p ∙ only_perm q

module _ {A B : Type 0} where
  pub filter_map_perm : (f : A → Option B) {l m : List A} → Perm l m → Perm (filter_map f l) (filter_map f m)
  filter_map_perm f p_nil = p_nil
  filter_map_perm f (p_skip {x = x} h) = cons_opt_perm (f x) (filter_map_perm f h)
  filter_map_perm f (p_swap {x = x} {y = y} {l = l}) = cons_opt_swap (f x) (f y) (filter_map f l)
  filter_map_perm f (p_trans h k) = p_trans (filter_map_perm f h) (filter_map_perm f k)

  pub map_perm : (f : A → B) {l m : List A} → Perm l m → Perm (map f l) (map f m)
  map_perm f p_nil = p_nil
  map_perm f (p_skip h) = p_skip (map_perm f h)
  map_perm f p_swap = p_swap
  map_perm f (p_trans h k) = p_trans (map_perm f h) (map_perm f k)

  pub any_map : (p : B → Bool) (f : A → B) (l : List A) → any p (map f l) ≡ any (λ (x : A). p (f x)) l
  any_map p f [] = refl
  any_map p f (x ∷ l) = ap (λ (b : Bool). p (f x) || b) (any_map p f l)

  pub mem_map : (f : A → B) {x : A} {l : List A} → Memᴰ x l → Memᴰ (f x) (map f l)
  mem_map f (Memᴰ.head e) = Memᴰ.head (ap f e)
  mem_map f (Memᴰ.tail m) = Memᴰ.tail (mem_map f m)

  pub map_mem : (f : A → B) (l : List A) {y : B} → Memᴰ y (map f l) → (x : A) × Memᴰ x l × (y ≡ f x)
  map_mem f [] m = elim m [ ]
  map_mem f (x ∷ l) {y} m = go m (map_mem f l {y = y})
    where
      go : Memᴰ y (f x ∷ map f l) → (Memᴰ y (map f l) → (z : A) × Memᴰ z l × (y ≡ f z)) → (z : A) × Memᴰ z (x ∷ l) × (y ≡ f z)
      go (Memᴰ.head e) g = (x, Memᴰ.head refl, e)
      go (Memᴰ.tail k) g = let r = g k in (r.0, Memᴰ.tail r.1, r.2)

  pub length_filter_of_map : (p : B → Bool) (q : A → Bool) (f : A → B) (l : List A) → ((x : A) → p (f x) ≡ q x) → length (filter p (map f l)) ≡ length (filter q l)
  length_filter_of_map p q f [] h = refl
  length_filter_of_map p q f (x ∷ l) h = go (p (f x)) (q x) (h x) (length_filter_of_map p q f l h)
    where
      same : (b : Bool) → length (filter p (map f l)) ≡ length (filter q l) → length (cons_if b (f x) (filter p (map f l))) ≡ length (cons_if b x (filter q l))
      same true e = ap suc e
      same false e = e

      go : (b c : Bool) → b ≡ c → length (filter p (map f l)) ≡ length (filter q l) → length (cons_if b (f x) (filter p (map f l))) ≡ length (cons_if c x (filter q l))
      go b c h e = subst (λ (d : Bool). length (cons_if b (f x) (filter p (map f l))) ≡ length (cons_if d x (filter q l))) h (same b e)

module _ {B : Type 0} where
  -- ---- filter_map

  pub cons_opt_mem : (o : Option B) {y : B} {l : List B} → Memᴰ y (cons_opt o l) → (o ≡ Some y) ⊎ Memᴰ y l
  cons_opt_mem None m = inr m
  cons_opt_mem (Some z) (Memᴰ.head e) = inl (ap {B = Option B} Some (sym e))
  cons_opt_mem (Some z) (Memᴰ.tail m) = inr m

  pub cons_opt_later : (o : Option B) {y : B} {l : List B} → Memᴰ y l → Memᴰ y (cons_opt o l)
  cons_opt_later None m = m
  cons_opt_later (Some z) m = Memᴰ.tail m

module _ {A B : Type 0} where
  pub filter_map_mem : (f : A → Option B) (l : List A) {y : B} → Memᴰ y (filter_map f l) → (x : A) × Memᴰ x l × (f x ≡ Some y)
  filter_map_mem f [] m = elim m [ ]
  filter_map_mem f (x ∷ l) {y} m = go (cons_opt_mem (f x) m) (filter_map_mem f l {y = y})
    where
      go : (f x ≡ Some y) ⊎ Memᴰ y (filter_map f l) → (Memᴰ y (filter_map f l) → (z : A) × Memᴰ z l × (f z ≡ Some y)) → (z : A) × Memᴰ z (x ∷ l) × (f z ≡ Some y)
      go (inl e) g = (x, Memᴰ.head refl, e)
      go (inr k) g = let r = g k in (r.0, Memᴰ.tail r.1, r.2)

  pub mem_filter_map : (f : A → Option B) {x : A} {l : List A} {y : B} → Memᴰ x l → f x ≡ Some y → Memᴰ y (filter_map f l)
  mem_filter_map f {y} (Memᴰ.head {x = x} {xs = l} e) h = go (f x) (ap f (sym e) ∙ h)
    where
      go : (o : Option B) → o ≡ Some y → Memᴰ y (cons_opt o (filter_map f l))
      go None u = let z : ◌≡◌ {A = ℕ} 0 1 = cc in absurd (omega arith)
      go (Some w) u = let d : w ≡ y = cc in Memᴰ.head (sym d)
  mem_filter_map f (Memᴰ.tail {x = x} m) h = cons_opt_later (f x) (mem_filter_map f m h)

  -- what passes in a filter_map comes from what passes in the list
  pub filter_filter_map_le : (p : B → Bool) (f : A → Option B) (q : A → Bool) (l : List A) → ((x : A) → has p (f x) ≡ q x) →
      length (filter p (filter_map f l)) ≤ length (filter q l)
  filter_filter_map_le p f q [] h = zero-le
  filter_filter_map_le p f q (x ∷ l) h = go (f x) (q x) (h x) (filter_filter_map_le p f q l h)
    where
      put : (b c : Bool) (y : B) → b ≡ c → length (filter p (filter_map f l)) ≤ length (filter q l) → length (cons_if b y (filter p (filter_map f l))) ≤ length (cons_if c x (filter q l))
      put true true y e k = suc-le-suc k
      put true false y e k = absurd (true_not_false refl e)
      put false true y e k = le_step k
      put false false y e k = k

      skip : (c : Bool) → length (filter p (filter_map f l)) ≤ length (filter q l) → length (filter p (filter_map f l)) ≤ length (cons_if c x (filter q l))
      skip true k = le_step k
      skip false k = k

      go : (o : Option B) (c : Bool) → has p o ≡ c → length (filter p (filter_map f l)) ≤ length (filter q l) → length (filter p (cons_opt o (filter_map f l))) ≤ length (cons_if c x (filter q l))
      go None c e k = skip c k
      go (Some y) c e k = put (p y) c y e k

module _ {A : Type 0} where
  pub small_mem : (l : List A) {x y : A} → length l ≤ 1 → Memᴰ x l → Memᴰ y l → x ≡ y
  small_mem [] h m n = elim m [ ]
  small_mem (a ∷ []) {x} {y} h m n = last m ∙ sym (last n)
    where
      last : {z : A} → Memᴰ z (a ∷ []) → z ≡ a
      last (Memᴰ.head e) = e
      last (Memᴰ.tail k) = elim k [ ]
  small_mem (a ∷ (b ∷ l)) h m n = absurd (not-suc-le-zero (le_of_suc-le-suc h))

  pub small_one : (l : List A) {x : A} → length l ≤ 1 → Memᴰ x l → l ≡ x ∷ []
  small_one [] h m = elim m [ ]
  small_one (a ∷ []) {x} h m = ap (λ (z : A). z ∷ []) (last m)
    where
      last : {z : A} → Memᴰ z (a ∷ []) → a ≡ z
      last (Memᴰ.head e) = sym e
      last (Memᴰ.tail k) = elim k [ ]
  small_one (a ∷ (b ∷ l)) h m = absurd (not-suc-le-zero (le_of_suc-le-suc h))

  pub only_mem : (l : List A) {x : A} → only l ≡ Some x → Memᴰ x l
  only_mem [] e = let z : ◌≡◌ {A = ℕ} 0 1 = cc in absurd (omega arith)
  only_mem (y ∷ []) {x} e = let d : y ≡ x = cc in Memᴰ.head (sym d)
  only_mem (y ∷ (z ∷ l)) e = let z : ◌≡◌ {A = ℕ} 0 1 = cc in absurd (omega arith)

  pub filter_filter_le : (p q : A → Bool) (l : List A) → length (filter p (filter q l)) ≤ length (filter p l)
  filter_filter_le p q [] = zero-le
  filter_filter_le p q (x ∷ l) = go (q x) (filter_filter_le p q l)
    where
      both_le : (b : Bool) → length (filter p (filter q l)) ≤ length (filter p l) → length (cons_if b x (filter p (filter q l))) ≤ length (cons_if b x (filter p l))
      both_le true k = suc-le-suc k
      both_le false k = k

      one_le : (b : Bool) → length (filter p (filter q l)) ≤ length (filter p l) → length (filter p (filter q l)) ≤ length (cons_if b x (filter p l))
      one_le true k = le_step k
      one_le false k = k

      go : (c : Bool) → length (filter p (filter q l)) ≤ length (filter p l) → length (filter p (cons_if c x (filter q l))) ≤ length (cons_if (p x) x (filter p l))
      go true k = both_le (p x) k
      go false k = one_le (p x) k

module _ {A B : Type 0} where
  -- what is kept of a map was kept by the one test or by the other
  pub filter_map_le : (p : B → Bool) (q w : A → Bool) (f : A → B) (l : List A) → ((x : A) → p (f x) ≡ true → (q x || w x) ≡ true) →
      length (filter p (map f l)) ≤ length (filter q l) + length (filter w l)
  filter_map_le p q w f [] h = zero-le
  filter_map_le p q w f (x ∷ l) h = go (p (f x)) (q x) (w x) (h x) (filter_map_le p q w f l h)
    where
      n : ℕ
      n = length (filter p (map f l))

      go : (a b c : Bool) → (a ≡ true → (b || c) ≡ true) → length (filter p (map f l)) ≤ length (filter q l) + length (filter w l) →
          length (cons_if a (f x) (filter p (map f l))) ≤ length (cons_if b x (filter q l)) + length (cons_if c x (filter w l))
      go true true true k e = omega arith
      go true true false k e = omega arith
      go true false true k e = omega arith
      go true false false k e = absurd (true_not_false (k refl) refl)
      go false true true k e = omega arith
      go false true false k e = omega arith
      go false false true k e = omega arith
      go false false false k e = e

-- ---- distinctness

swap4 : (a b c d : Bool) → (not (a || b) && (not c && d)) ≡ (not (a || c) && (not b && d))
swap4 true b c d = refl
swap4 false true true d = refl
swap4 false true false d = refl
swap4 false false true d = refl
swap4 false false false d = refl

module _ {A : Type 0} where
  pub distinct_perm : (same : A → A → Bool) → ((e f : A) → same e f ≡ same f e) → {l m : List A} → Perm l m → distinct same l ≡ distinct same m
  distinct_perm same s p_nil = refl
  distinct_perm same s (p_skip {x = x} p) = ap₂ (λ (a b : Bool). not a && b) (any_perm (same x) p) (distinct_perm same s p)
  distinct_perm same s (p_swap {x = x} {y = y} {l = l}) =
      ap (λ (a : Bool). not (a || any (same x) l) && (not (any (same y) l) && distinct same l)) (s x y)
      ∙ swap4 (same y x) (any (same x) l) (any (same y) l) (distinct same l)
  distinct_perm same s (p_trans p q) = distinct_perm same s p ∙ distinct_perm same s q

  pub distinct_map : (same : A → A → Bool) (g : A → A) (es : List A) → ((e f : A) → same (g e) (g f) ≡ true → same e f ≡ true) →
      distinct same es ≡ true → distinct same (map g es) ≡ true
  distinct_map same g [] w h = refl
  distinct_map same g (e ∷ es) w h = both (ap not (none_by (same (g e)) (map g es) away)) (distinct_map same g es w (right (not (any (same e) es)) _ h))
    where
      apart : any (same e) es ≡ false
      apart = is_not (left (not (any (same e) es)) _ h)

      away : (y : A) → Memᴰ y (map g es) → same (g e) y ≡ false
      away y m = go (map_mem g es m)
        where
          go : (x : A) × Memᴰ x es × (y ≡ g x) → same (g e) y ≡ false
          go r = by (test (same (g e) y))
            where
              by : (same (g e) y ≡ true) ⊎ (same (g e) y ≡ false) → same (g e) y ≡ false
              by (inl t) = absurd (true_not_false (any_of (same e) r.1 (w e r.0 (ap (same (g e)) (sym r.2) ∙ t))) apart)
              by (inr t) = t

  pub distinct_filter : (same : A → A → Bool) (p : A → Bool) (es : List A) → distinct same es ≡ true → distinct same (filter p es) ≡ true
  distinct_filter same p [] h = refl
  distinct_filter same p (e ∷ es) h = go (p e) (distinct_filter same p es (right (not (any (same e) es)) _ h))
    where
      apart : any (same e) (filter p es) ≡ false
      apart = none_by (same e) (filter p es) (λ y m. none_of (same e) (filter_mem p es m).0 (is_not (left (not (any (same e) es)) _ h)))

      go : (b : Bool) → distinct same (filter p es) ≡ true → distinct same (cons_if b e (filter p es)) ≡ true
      go true k = both (ap not apart) k
      go false k = k

  pub distinct_one : (same : A → A → Bool) (p : A → Bool) → ((e f : A) → p e ≡ true → p f ≡ true → same e f ≡ true) →
      (es : List A) → distinct same es ≡ true → length (filter p es) ≤ 1
  distinct_one same p w [] h = zero-le
  distinct_one same p w (e ∷ es) h = go (p e) refl (distinct_one same p w es (right (not (any (same e) es)) _ h))
    where
      apart : any (same e) es ≡ false
      apart = is_not (left (not (any (same e) es)) _ h)

      others : p e ≡ true → filter p es ≡ []
      others t = filter_none p es (none_by p es away)
        where
          away : (f : A) → Memᴰ f es → p f ≡ false
          away f m = by (test (p f))
            where
              by : (p f ≡ true) ⊎ (p f ≡ false) → p f ≡ false
              by (inl u) = absurd (true_not_false (any_of (same e) m (w e f t u)) apart)
              by (inr u) = u

      go : (b : Bool) → p e ≡ b → length (filter p es) ≤ 1 → length (cons_if b e (filter p es)) ≤ 1
      go true t k = subst⁻¹ (λ (l : List A). length (e ∷ l) ≤ 1) (others t) (le_refl 1)
      go false t k = k
