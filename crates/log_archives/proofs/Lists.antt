-- Laws of lists: parts of a filter, strictly ascending numbers, and lists that differ in their order alone.
use Rattle.std.specs.Prelude.{flat_map, IsPermutation}
use Rattle.std.proofs.lemmas.List.Concat.{flat_map-append}
use Rattle.std.proofs.lemmas.List.Sorted.{IsPermutation-refl, IsPermutation-cons, IsPermutation-trans, IsPermutation-append_left, IsPermutation-append_comm}
use Prim.Native.Nat.{ℕ}
use native.Mathlib.Omega.{arith}
use mathlib.Core.Path.{◌∙◌, ◌≡◌, ap, ap₂, refl}
use mathlib.Core.Bool.{Bool, true, not, false, ◌&&◌, ◌||◌}
use mathlib.Core.List.{◌∷◌, List, Memᴰ, [], ◌++◌}
use mathlib.Core.List.Memᴰ
use lib.Dec.{eqb, ltb}
use Rattle.std.proofs.lemmas.Bool.{ltb-true, le-ltb}
use Rattle.octets.specs.Lists.{any, all, cons_if, filter, distinct}
use Rattle.octets.proofs.Lists.{Perm, p_nil, p_skip, p_swap, p_trans, p_refl, p_of, true_not_false, left, right, is_not, eqb_eq, all_at, filter_none, none_by}

module _ {A : Type 0} (p : A → Bool) where
  pub filter_append : (l m : List A) → filter p (l ++ m) ≡ filter p l ++ filter p m
  filter_append [] m = refl
  filter_append (x ∷ l) m = go (p x) (filter_append l m)
    where
      go : (b : Bool) → filter p (l ++ m) ≡ filter p l ++ filter p m → cons_if b x (filter p (l ++ m)) ≡ cons_if b x (filter p l) ++ filter p m
      go true e = ap (λ (r : List A). x ∷ r) e
      go false e = e

  pub filter_whole : (l : List A) → all p l ≡ true → filter p l ≡ l
  filter_whole [] h = refl
  filter_whole (x ∷ l) h =
      ap₂ (λ (b : Bool) (r : List A). cons_if b x r) (left (p x) (all p l) h) (filter_whole l (right (p x) (all p l) h))

  -- a list that has an element that passes, cut there
  pub record Cut (l : List A) : Type 0 where
    pub before : List A
    pub here : A
    pub behind : List A
    pub is : l ≡ before ++ (here ∷ behind)
    pub passes : p here ≡ true

  pub cut : (l : List A) → any p l ≡ true → Cut l
  cut [] h = absurd (true_not_false h refl)
  cut (x ∷ l) h = go (p x) refl h (cut l)
    where
      go : (b : Bool) → p x ≡ b → (b || any p l) ≡ true → (any p l ≡ true → Cut l) → Cut (x ∷ l)
      go true e t f = record { before = []; here = x; behind = l; is = refl; passes = e }
      go false e t f =
          let c = f t in
          record { before = x ∷ c.before; here = c.here; behind = c.behind; is = ap (λ (r : List A). x ∷ r) c.is; passes = c.passes }

-- ---- strictly ascending numbers

-- each number is below all behind it
abbrev pub ascending : List ℕ → Bool
ascending [] = true
ascending (x ∷ l) = all (ltb x) l && ascending l

none_below : (k : ℕ) (l : List ℕ) → all (ltb k) l ≡ true → filter (λ (x : ℕ). ltb x k) l ≡ []
none_below k l h = filter_none (λ (x : ℕ). ltb x k) l (none_by (λ (x : ℕ). ltb x k) l (λ x m. le-ltb x k (omega (arith, ltb-true k x (all_at (ltb k) m h)))))

-- the numbers below one of them are those before it
pub filter_below : (before : List ℕ) (k : ℕ) (behind : List ℕ) → ascending (before ++ (k ∷ behind)) ≡ true → filter (λ (x : ℕ). ltb x k) (before ++ (k ∷ behind)) ≡ before
filter_below [] k behind h =
    ap₂ (λ (b : Bool) (r : List ℕ). cons_if b k r) (le-ltb k k (omega arith)) (none_below k behind (left (all (ltb k) behind) (ascending behind) h))
filter_below (x ∷ before) k behind h =
    let rest = before ++ (k ∷ behind) in
    ap₂ (λ (b : Bool) (r : List ℕ). cons_if b x r)
    (all_at (ltb x) {x = k} {l = rest} (Memᴰ.append_right before (Memᴰ.head refl)) (left (all (ltb x) rest) (ascending rest) h))
    (filter_below before k behind (right (all (ltb x) rest) (ascending rest) h))

-- ---- lists that differ in their order alone

module _ {A : Type 0} where
  pub p_behind : (l : List A) {m n : List A} → Perm m n → Perm (l ++ m) (l ++ n)
  p_behind [] p = p
  p_behind (x ∷ l) p = p_skip (p_behind l p)

  pub p_before : {l m : List A} (n : List A) → Perm l m → Perm (l ++ n) (m ++ n)
  p_before n p_nil = p_refl n
  p_before n (p_skip p) = p_skip (p_before n p)
  p_before n p_swap = p_swap
  p_before n (p_trans p q) = p_trans (p_before n p) (p_before n q)

  pub p_append : {l m n o : List A} → Perm l m → Perm n o → Perm (l ++ n) (m ++ o)
  p_append {m} {n} p q = p_trans (p_before n p) (p_behind m q)

  pub p_middle : (x : A) (l m : List A) → Perm (x ∷ (l ++ m)) (l ++ (x ∷ m))
  p_middle x [] m = p_refl (x ∷ m)
  p_middle x (y ∷ l) m = p_trans p_swap (p_skip (p_middle x l m))

  pub p_across : (l m n : List A) → Perm (l ++ (m ++ n)) (m ++ (l ++ n))
  p_across [] m n = p_refl (m ++ n)
  p_across (x ∷ l) m n = p_trans (p_skip (p_across l m n)) (p_middle x m (l ++ n))

  -- as std has it
  pub permuted : {l m : List A} → Perm l m → IsPermutation l m
  permuted p_nil = IsPermutation-refl []
  permuted (p_skip {x = x} {l = l} {m = m} p) = IsPermutation-cons x l m (permuted p)
  permuted (p_swap {x = x} {y = y} {l = l}) = IsPermutation-append_left l (x ∷ (y ∷ [])) (y ∷ (x ∷ [])) (IsPermutation-append_comm (x ∷ []) (y ∷ []))
  permuted (p_trans {l = l} {m = m} {n = n} p q) = IsPermutation-trans l m n (permuted p) (permuted q)

pub flat_map_flat_map : {A B C : Type 0} (g : B → List C) (f : A → List B) (l : List A) → flat_map g (flat_map f l) ≡ flat_map (λ (x : A). flat_map g (f x)) l
flat_map_flat_map g f [] = refl
flat_map_flat_map g f (x ∷ l) = flat_map-append g (f x) (flat_map f l) ∙ ap (λ r. flat_map g (f x) ++ r) (flat_map_flat_map g f l)

module _ {A B : Type 0} where
  pub flat_map_perm : (f : A → List B) {l m : List A} → Perm l m → Perm (flat_map f l) (flat_map f m)
  flat_map_perm f p_nil = p_nil
  flat_map_perm f (p_skip {x = x} p) = p_behind (f x) (flat_map_perm f p)
  flat_map_perm f (p_swap {x = x} {y = y} {l = l}) = p_across (f x) (f y) (flat_map f l)
  flat_map_perm f (p_trans p q) = p_trans (flat_map_perm f p) (flat_map_perm f q)

  pub flat_map_perms : (f g : A → List B) → ((x : A) → Perm (f x) (g x)) → (l : List A) → Perm (flat_map f l) (flat_map g l)
  flat_map_perms f g h [] = p_nil
  flat_map_perms f g h (x ∷ l) = p_append (h x) (flat_map_perms f g h l)

-- ---- a list parted by a number of each element

module _ {A : Type 0} where
  -- what passes one of two tests of which no element passes both
  pub filter_parts : (p q : A → Bool) → ((x : A) → p x ≡ true → q x ≡ false) → (l : List A) → Perm (filter (λ (x : A). p x || q x) l) (filter p l ++ filter q l)
  filter_parts p q apart [] = p_nil
  filter_parts p q apart (x ∷ l) = go (p x) (q x) (apart x) (filter_parts p q apart l)
    where
      go : (b c : Bool) → (b ≡ true → c ≡ false) → Perm (filter (λ (y : A). p y || q y) l) (filter p l ++ filter q l) →
          Perm (cons_if (b || c) x (filter (λ (y : A). p y || q y) l)) (cons_if b x (filter p l) ++ cons_if c x (filter q l))
      go true true f h = absurd (true_not_false refl (f refl))
      go true false f h = p_skip h
      go false true f h = p_trans (p_skip h) (p_middle x (filter p l) (filter q l))
      go false false f h = h

  -- the elements whose number is one of some different ones, and those of each of the numbers in turn
  pub by_number : (number : A → ℕ) (l : List A) (ns : List ℕ) → distinct eqb ns ≡ true →
      Perm (filter (λ (x : A). any (eqb (number x)) ns) l) (flat_map (λ (n : ℕ). filter (λ (x : A). eqb (number x) n) l) ns)
  by_number number l [] h = p_of (filter_none (λ (x : A). false) l (none_by (λ (x : A). false) l (λ x m. refl)))
  by_number number l (n ∷ ns) h =
      p_trans
      (filter_parts (λ (x : A). eqb (number x) n) (λ (x : A). any (eqb (number x)) ns) apart l)
      (p_behind (filter (λ (x : A). eqb (number x) n) l) (by_number number l ns (right (not (any (eqb n) ns)) (distinct eqb ns) h)))
    where
      apart : (x : A) → eqb (number x) n ≡ true → any (eqb (number x)) ns ≡ false
      apart x e = ap (λ (k : ℕ). any (eqb k) ns) (eqb_eq (number x) n e) ∙ is_not (left (not (any (eqb n) ns)) (distinct eqb ns) h)
