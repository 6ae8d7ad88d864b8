-- The list of the sequences has them all, each once and in order.
use Prim.Native.Nat.{ℕ, zero, suc, ◌≤◌}
use native.Mathlib.Omega.{arith}
use native.Mathlib.Nat.{le_refl, le_step, le-suc_iff}
use mathlib.Core.Path.{◌≡◌, refl, sym, ap, subst, subst⁻¹, ◌∙◌}
use mathlib.Core.Logic.{◌⊎◌, inl, inr}
use mathlib.Core.Bool.{Bool, true, false, cond}
use mathlib.Core.List.{List, [], ◌∷◌, ◌++◌, map, Memᴰ}
use mathlib.Core.List.Memᴰ
use lib.Dec.{ltb, eqb, leb-suc-suc, eqb-suc-suc}
use lib.ListN.{length}
use borrow.Author.Tests.{lt-ltb, le-ltb}
use Rattle.octets.specs.Lists.{all}
use Rattle.octets.proofs.Lists.{true_not_false, both, left, right, or_left, or_right, eqb_self, eqb_of, eqb_eq, any_has, all_at, mem_map, map_mem}
use Rattle.short_histories.specs.Sequences.{event_numbers, is_event_number, none_refused, of_length, up_to, lower, precedes, ListsAll}
use Rattle.short_histories.proofs.Lists.{mem_flat_map, flat_map_mem, pairwise, pairwise_append, pairwise_at, pairwise_map, pairwise_flat_map}

mem_numbers : (n : ℕ) → is_event_number n ≡ true → Memᴰ n event_numbers
mem_numbers n h = let r = any_has (eqb n) event_numbers h in subst⁻¹ (λ (m : ℕ). Memᴰ m event_numbers) (eqb_eq n r.0 r.2) r.1

-- ---- which sequence comes before which

ltb_self : (n : ℕ) → ltb n n ≡ false
ltb_self n = le-ltb n n (le_refl n)

none_lower : (ns : List ℕ) → lower ns ns ≡ false
none_lower [] = refl
none_lower (n ∷ ns) = rw (ltb_self n, eqb_self n) (none_lower ns)

same_first : (n : ℕ) (ns ms : List ℕ) → precedes (n ∷ ns) (n ∷ ms) ≡ precedes ns ms
same_first n ns ms = simp (ltb_self n, eqb_self n, leb-suc-suc, eqb-suc-suc)

none_precedes : (ns : List ℕ) → precedes ns ns ≡ false
none_precedes ns = simp (ltb_self (length ns), eqb_self (length ns), none_lower ns)

module _ {S : Type 0} (accepts : S → ℕ → Bool) (after : S → ℕ → S) where
  -- ---- those of so many event_numbers

  abbrev long : ℕ → S → List (List ℕ)
  long k s = of_length accepts after k s

  record Such (s : S) (ns : List ℕ) : Type 0 where
    numbered : all is_event_number ns ≡ true
    accepted : none_refused accepts after s ns ≡ true

  -- those that begin with one number
  beginning : ℕ → S → ℕ → List (List ℕ)
  beginning k s n = cond (accepts s n) (map (λ (ns : List ℕ). n ∷ ns) (long k (after s n))) []

  begins : (k : ℕ) (s : S) (n : ℕ) {ns : List ℕ} → Memᴰ ns (beginning k s n) → (ms : List ℕ) × Memᴰ ms (long k (after s n)) × (ns ≡ n ∷ ms) × (accepts s n ≡ true)
  unfolding beginning
  begins k s n {ns} m = go (accepts s n) refl m
    where
      go : (b : Bool) → accepts s n ≡ b → Memᴰ ns (cond b (map (λ (ms : List ℕ). n ∷ ms) (long k (after s n))) []) →
          (ms : List ℕ) × Memᴰ ms (long k (after s n)) × (ns ≡ n ∷ ms) × (accepts s n ≡ true)
      go true h m = let r = map_mem (λ (ms : List ℕ). n ∷ ms) (long k (after s n)) m in (r.0, r.1, r.2, h)
      go false h m = elim m [ ]

  long_mem : (k : ℕ) (s : S) {ns : List ℕ} → Memᴰ ns (long k s) → (length ns ≡ k) × Such s ns
  unfolding of_length none_refused beginning
  long_mem zero s m = subst⁻¹ (λ (ns : List ℕ). (length ns ≡ 0) × Such s ns) (Memᴰ.eq_of_singleton m) (refl, record { numbered = refl; accepted = refl })
  long_mem (suc k) s m =
      let r = flat_map_mem (beginning k s) event_numbers m in
      let b = begins k s r.0 r.2 in
      let u = long_mem k (after s r.0) b.1 in
      subst⁻¹ (λ (ns : List ℕ). (length ns ≡ suc k) × Such s ns) b.2 (ap suc u.0, record { numbered = both (all_at is_event_number r.1 refl) u.1.numbered; accepted = both b.3 u.1.accepted })

  pub has_length : (k : ℕ) (s : S) {ns : List ℕ} → Memᴰ ns (of_length accepts after k s) → length ns ≡ k
  has_length k s m = (long_mem k s m).0

  mem_long : (ns : List ℕ) (s : S) → all is_event_number ns ≡ true → none_refused accepts after s ns ≡ true → Memᴰ ns (long (length ns) s)
  unfolding of_length none_refused beginning
  mem_long [] s h a = Memᴰ.head refl
  mem_long (n ∷ ns) s h a =
      mem_flat_map (beginning (length ns) s) (mem_numbers n (left (is_event_number n) _ h))
      (rw (left (accepts s n) _ a) (mem_map (λ (ms : List ℕ). n ∷ ms) (mem_long ns (after s n) (right (is_event_number n) _ h) (right (accepts s n) _ a))))

  long_ascends : (k : ℕ) (s : S) → pairwise precedes (long k s) ≡ true
  unfolding of_length beginning
  long_ascends zero s = refl
  long_ascends (suc k) s = pairwise_flat_map ltb precedes (beginning k s) (λ n. one n (accepts s n) (long_ascends k (after s n))) across event_numbers refl
    where
      one : (n : ℕ) (b : Bool) → pairwise precedes (long k (after s n)) ≡ true → pairwise precedes (cond b (map (λ (ns : List ℕ). n ∷ ns) (long k (after s n))) []) ≡ true
      one n true h = pairwise_map precedes precedes (λ (ns : List ℕ). n ∷ ns) (same_first n) (long k (after s n)) ∙ h
      one n false h = refl

      across : (n m : ℕ) (ns ms : List ℕ) → ltb n m ≡ true → Memᴰ ns (beginning k s n) → Memᴰ ms (beginning k s m) → precedes ns ms ≡ true
      across n m ns ms h i j =
          let b = begins k s n i in
          let c = begins k s m j in
          let e = (long_mem k (after s n) b.1).0 ∙ sym (long_mem k (after s m) c.1).0 in
          rw (b.2, c.2) (or_right _ _ (both (eqb_of _ _ (ap suc e)) (or_left (ltb n m) _ h)))

  -- ---- those of at most so many event_numbers

  abbrev short : ℕ → S → List (List ℕ)
  short most s = up_to accepts after most s

  mem_short : (most k : ℕ) (s : S) {ns : List ℕ} → k ≤ most → Memᴰ ns (long k s) → Memᴰ ns (short most s)
  unfolding up_to
  mem_short zero k s {ns} h m = let e : k ≡ 0 = omega arith in subst (λ (j : ℕ). Memᴰ ns (long j s)) e m
  mem_short (suc most) k s {ns} h m = go (le-suc_iff.0 h) (λ l. mem_short most k s l m)
    where
      go : (k ≤ most) ⊎ (k ≡ suc most) → (k ≤ most → Memᴰ ns (short most s)) → Memᴰ ns (short most s ++ long (suc most) s)
      go (inl l) f = Memᴰ.append_left (long (suc most) s) (f l)
      go (inr e) f = Memᴰ.append_right (short most s) (subst (λ (j : ℕ). Memᴰ ns (long j s)) e m)

  short_mem : (most : ℕ) (s : S) {ns : List ℕ} → Memᴰ ns (short most s) → (length ns ≤ most) × Such s ns
  unfolding up_to
  short_mem zero s m = let u = long_mem 0 s m in (omega (arith, u.0), u.1)
  short_mem (suc most) s {ns} m = go (Memᴰ.append_cases (short most s) m) (short_mem most s {ns = ns})
    where
      go : Memᴰ ns (short most s) ⊎ Memᴰ ns (long (suc most) s) → (Memᴰ ns (short most s) → (length ns ≤ most) × Such s ns) → (length ns ≤ suc most) × Such s ns
      go (inl m) f = let u = f m in (le_step u.0, u.1)
      go (inr m) f = let u = long_mem (suc most) s m in (omega (arith, u.0), u.1)

  short_ascends : (most : ℕ) (s : S) → pairwise precedes (short most s) ≡ true
  unfolding up_to
  short_ascends zero s = long_ascends 0 s
  short_ascends (suc most) s =
      pairwise_append precedes (short most s) (long (suc most) s) (short_ascends most s) (long_ascends (suc most) s)
      (λ ns ms i j. or_left _ _ (lt-ltb (length ns) (length ms) (omega (arith, (short_mem most s i).0, (long_mem (suc most) s j).0))))

  pub lists_all : (most : ℕ) (s : S) → ListsAll accepts after most s (up_to accepts after most s)
  lists_all most s = record {
    none_missing = λ ns h n a. mem_short most (length ns) s h (mem_long ns s n a);
    only_such = λ ns m. let u = short_mem most s m in (u.0, u.1.numbered, u.1.accepted);
    ascending = ascending;
    once = λ before mid rest ns e. true_not_false (ascending before mid rest ns ns e) (none_precedes ns);
  }
    where
      ascending : (before mid rest : List (List ℕ)) (ns ms : List ℕ) → short most s ≡ before ++ (ns ∷ (mid ++ (ms ∷ rest))) → precedes ns ms ≡ true
      ascending before mid rest ns ms e = pairwise_at precedes before mid rest ns ms (subst (λ (l : List (List ℕ)). pairwise precedes l ≡ true) e (short_ascends most s))
