-- Laws of lists whose elements all stand in one relation to those behind them, of membership in a flat map, and of what stands at a place.
use Prim.Native.Nat.{ℕ, zero, suc, ◌<◌}
use native.Mathlib.Omega.{arith}
use mathlib.Core.Path.{◌≡◌, refl, sym, ap, subst, ap₂, ◌∙◌}
use mathlib.Core.Logic.{◌⊎◌, inl, inr}
use mathlib.Core.Bool.{Bool, true, ◌&&◌}
use mathlib.Core.List.{List, [], ◌∷◌, ◌++◌, map, Memᴰ}
use mathlib.Core.List.Memᴰ
use Rattle.std.specs.Prelude.{flat_map, slice_get, Some}
use Rattle.octets.specs.Lists.{all}
use Rattle.octets.proofs.Lists.{both, left, right, all_at, all_by, all_ext, all_map}

module _ {A B : Type 0} (f : A → List B) where
  pub mem_flat_map : {x : A} {l : List A} {y : B} → Memᴰ x l → Memᴰ y (f x) → Memᴰ y (flat_map f l)
  mem_flat_map {y} (Memᴰ.head {x = z} {xs = l} e) m = Memᴰ.append_left (flat_map f l) (subst (λ (x : A). Memᴰ y (f x)) e m)
  mem_flat_map (Memᴰ.tail {x = z} k) m = Memᴰ.append_right (f z) (mem_flat_map k m)

  pub flat_map_mem : (l : List A) {y : B} → Memᴰ y (flat_map f l) → (x : A) × Memᴰ x l × Memᴰ y (f x)
  flat_map_mem [] m = elim m [ ]
  flat_map_mem (x ∷ l) {y} m = go (Memᴰ.append_cases (f x) m) (flat_map_mem l {y = y})
    where
      go : Memᴰ y (f x) ⊎ Memᴰ y (flat_map f l) → (Memᴰ y (flat_map f l) → (z : A) × Memᴰ z l × Memᴰ y (f z)) → (z : A) × Memᴰ z (x ∷ l) × Memᴰ y (f z)
      go (inl k) later = (x, Memᴰ.head refl, k)
      go (inr k) later = let r = later k in (r.0, Memᴰ.tail r.1, r.2)

-- each element stands in the relation to all behind it
abbrev pub pairwise : {A : Type 0} → (A → A → Bool) → List A → Bool
pairwise r [] = true
pairwise r (x ∷ l) = all (r x) l && pairwise r l

module _ {A : Type 0} (r : A → A → Bool) where
  pub pairwise_append : (l m : List A) → pairwise r l ≡ true → pairwise r m ≡ true → ((x y : A) → Memᴰ x l → Memᴰ y m → r x y ≡ true) → pairwise r (l ++ m) ≡ true
  pairwise_append [] m p q across = q
  pairwise_append (x ∷ l) m p q across =
      both (all_by (r x) (l ++ m) (λ y k. behind y (Memᴰ.append_cases l k)))
      (pairwise_append l m (right (all (r x) l) _ p) q (λ y z j k. across y z (Memᴰ.tail j) k))
    where
      behind : (y : A) → Memᴰ y l ⊎ Memᴰ y m → r x y ≡ true
      behind y (inl k) = all_at (r x) k (left (all (r x) l) _ p)
      behind y (inr k) = across x y (Memᴰ.head refl) k

  -- any two places
  pub pairwise_at : (before mid rest : List A) (x y : A) → pairwise r (before ++ (x ∷ (mid ++ (y ∷ rest)))) ≡ true → r x y ≡ true
  pairwise_at [] mid rest x y p = all_at (r x) (Memᴰ.append_right mid (Memᴰ.head refl)) (left (all (r x) (mid ++ (y ∷ rest))) _ p)
  pairwise_at (z ∷ before) mid rest x y p = pairwise_at before mid rest x y (right (all (r z) (before ++ (x ∷ (mid ++ (y ∷ rest))))) _ p)

module _ {A B : Type 0} (r : A → A → Bool) (q : B → B → Bool) where
  pub pairwise_map : (f : A → B) → ((x y : A) → q (f x) (f y) ≡ r x y) → (l : List A) → pairwise q (map f l) ≡ pairwise r l
  pairwise_map f same [] = refl
  pairwise_map f same (x ∷ l) = ap₂ ◌&&◌ (all_map (q (f x)) f l ∙ all_ext (λ (y : A). q (f x) (f y)) (r x) l (same x)) (pairwise_map f same l)

  pub pairwise_flat_map : (f : A → List B) → ((x : A) → pairwise q (f x) ≡ true) → ((x y : A) (a b : B) → r x y ≡ true → Memᴰ a (f x) → Memᴰ b (f y) → q a b ≡ true) →
      (l : List A) → pairwise r l ≡ true → pairwise q (flat_map f l) ≡ true
  pairwise_flat_map f each across [] p = refl
  pairwise_flat_map f each across (x ∷ l) p =
      pairwise_append q (f x) (flat_map f l) (each x) (pairwise_flat_map f each across l (right (all (r x) l) _ p))
      (λ a b j k. let m = flat_map_mem f l k in across x m.0 a b (all_at (r x) m.1 (left (all (r x) l) _ p)) j m.2)

-- ---- what stands at a place

module _ {A : Type 0} where
  pub got_mem : (l : List A) (p : ℕ) {x : A} → slice_get l p ≡ Some x → Memᴰ x l
  got_mem [] p e = absurd (let z : ◌≡◌ {A = ℕ} 0 1 = cc in omega arith)
  got_mem (y ∷ l) zero e = Memᴰ.head cc
  got_mem (y ∷ l) (suc p) e = Memᴰ.tail (got_mem l p e)

  pub mem_got : (l : List A) {x : A} → Memᴰ x l → (p : ℕ) × (slice_get l p ≡ Some x)
  mem_got [] m = elim m [ ]
  mem_got (y ∷ l) (Memᴰ.head e) = (0, ap Some (sym e))
  mem_got (y ∷ l) (Memᴰ.tail m) = let r = mem_got l m in (suc r.0, r.1)

  -- two places of a list, one behind the other
  pub got_apart : (l : List A) (p q : ℕ) {x y : A} → p < q → slice_get l p ≡ Some x → slice_get l q ≡ Some y
      → (before : List A) × (mid : List A) × (rest : List A) × (l ≡ before ++ (x ∷ (mid ++ (y ∷ rest))))
  got_apart [] p q h e f = absurd (let z : ◌≡◌ {A = ℕ} 0 1 = cc in omega arith)
  got_apart (z ∷ l) p zero h e f = absurd (omega arith)
  got_apart (z ∷ l) zero (suc q) {x} {y} h e f =
      let s = split l q f in
      let k : z ≡ x = cc in
      ([], s.0, s.1, ap₂ (λ (a : A) (b : List A). a ∷ b) k s.2)
    where
      split : (l : List A) (q : ℕ) → slice_get l q ≡ Some y → (mid : List A) × (rest : List A) × (l ≡ mid ++ (y ∷ rest))
      split [] q f = absurd (let z : ◌≡◌ {A = ℕ} 0 1 = cc in omega arith)
      split (w ∷ l) zero f = let k : w ≡ y = cc in ([], l, ap (λ (a : A). a ∷ l) k)
      split (w ∷ l) (suc q) f = let s = split l q f in (w ∷ s.0, s.1, ap (λ (a : List A). w ∷ a) s.2)
  got_apart (z ∷ l) (suc p) (suc q) h e f = let s = got_apart l p q (omega arith) e f in (z ∷ s.0, s.1, s.2, ap (λ (a : List A). z ∷ a) s.3)
