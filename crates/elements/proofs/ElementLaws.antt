-- Laws of elements in the code's terms: parts of a slice, the first element, and elements up to the end. Assumes nothing.
use Prim.Native.Nat.{ℕ, zero, suc, ◌+◌, ◌-◌, ◌%◌, ◌≤◌, ◌<◌}
use native.Mathlib.Omega.{arith}
use mathlib.Core.Path.{◌≡◌, refl, sym, ap, ◌∙◌}
use mathlib.Core.List.{List, [], ◌∷◌}
use mathlib.Core.Bool.{Bool, true, false, not, ◌&&◌, ◌||◌, cond}
use lib.ListN.{length, get_or, take, drop, length-take, length-drop}
use lib.Dec.{eqb}
use borrow.Author.Tests.{lt-ltb, le-leb, ne_eqb}
use Rattle.std.specs.List.{IsSplitAt}
use Rattle.octets.proofs.Places.{rest}
use Rattle.elements.specs.Elements.{Element, Bad, Whole, valid_head, first_element, constructed, well_formed, siblings, whole_elements}
use Rattle.elements.specs.Code.Readers.{checked}

-- ---- the first element
some_left : (s : List ℕ) → false ≡ eqb (length s) 0 → length s ≡ 0 → ⊥
some_left [] h e = absurd (let z : ◌≡◌ {A = ℕ} 0 1 = cc in omega arith)
some_left (x ∷ s) h e = absurd (omega arith)

pub short : (s : List ℕ) → length s < 2 → Bad ≡ first_element s
unfolding first_element
short [] h = refl
short (tag ∷ []) h = refl
short (tag ∷ n ∷ s) h = absurd (omega arith)

pub front : (s : List ℕ) → 2 ≤ length s
    → first_element s ≡ cond (valid_head (get_or s 0 0) (get_or s 1 0) (drop 2 s)) (Whole (get_or s 0 0) (take (get_or s 1 0) (drop 2 s)) (drop (get_or s 1 0) (drop 2 s))) Bad
unfolding first_element
front [] h = absurd (omega arith)
front (tag ∷ []) h = absurd (omega arith)
front (tag ∷ n ∷ s) h = refl

-- the octets after the length are parted where it says
pub whole : (s : List ℕ) {c r : List ℕ} → 2 ≤ length s → (get_or s 0 0 % 32 ≡ 31 → ⊥) → get_or s 1 0 < 128 → IsSplitAt (take (length s - 2) (drop 2 s)) (get_or s 1 0) c r → Whole (get_or s 0 0) c r ≡ first_element s
whole s h t l p =
    let q : IsSplitAt (drop 2 s) (get_or s 1 0) _ _ = rw rest at p in
    simp (front s h, ne_eqb _ _ t, lt-ltb _ _ l, le-leb _ _ q.0, q.1, q.2)

-- ---- elements up to the end
-- a larger count changes nothing
well_formed_lem : (inner f g : List ℕ → Bool) (e : Element) (k : ℕ) → ((tag : ℕ) (c r : List ℕ) → e ≡ Whole tag c r → length r ≤ k) → ((r : List ℕ) → length r ≤ k → f r ≡ g r) → well_formed inner f e ≡ well_formed inner g e
well_formed_lem inner f g Bad k p h = refl
well_formed_lem inner f g (Whole tag c r) k p h = rw (h r (p tag c r refl))

-- the parts of an element have two octets less than all
pub parts : (s : List ℕ) {tag : ℕ} {c r : List ℕ} → Whole tag c r ≡ first_element s → length c + length r + 2 ≤ length s
unfolding first_element
parts [] q = absurd (let z : ◌≡◌ {A = ℕ} 0 1 = cc in omega arith)
parts (x ∷ []) q = absurd (let z : ◌≡◌ {A = ℕ} 0 1 = cc in omega arith)
parts (x ∷ n ∷ s) {tag} {c} {r} q = picked (valid_head x n s) q
  where
    picked : (b : Bool) → Whole tag c r ≡ cond b (Whole x (take n s) (drop n s)) Bad → length c + length r + 2 ≤ suc (suc (length s))
    picked true q =
        let e : take n s ≡ c = cc in
        let f : drop n s ≡ r = cc in
        omega (arith, length-take n s, length-drop n s, ap length e, ap length f)
    picked false q = absurd (let z : ◌≡◌ {A = ℕ} 0 1 = cc in omega arith)

-- an element whose contents were judged is the element
judged : (inner : List ℕ → Bool) (e : Element) {tag : ℕ} {c r : List ℕ} → Whole tag c r ≡ checked inner e → Whole tag c r ≡ e
judged inner Bad q = q
judged inner (Whole x y z) {tag} {c} {r} q = go (not (constructed x) || inner y) q
  where
    go : (b : Bool) → Whole tag c r ≡ cond b (Whole x y z) Bad → Whole tag c r ≡ Whole x y z
    go true q = q
    go false q = absurd (let z : ◌≡◌ {A = ℕ} 0 1 = cc in omega arith)

pub judged_parts : (s : List ℕ) (inner : List ℕ → Bool) {tag : ℕ} {c r : List ℕ} → Whole tag c r ≡ checked inner (first_element s) → length r + 2 ≤ length s
judged_parts s inner q = let h = parts s (judged inner (first_element s) q) in omega (arith, h)

shorter : (x : ℕ) (s : List ℕ) (tag : ℕ) (c r : List ℕ) → first_element (x ∷ s) ≡ Whole tag c r → length r ≤ length s
shorter x s tag c r q = let h = parts (x ∷ s) (sym q) in omega (arith, h)

enough : (inner : List ℕ → Bool) (k m : ℕ) (s : List ℕ) → length s ≤ k → length s ≤ m → siblings inner k s ≡ siblings inner m s
unfolding siblings
enough inner zero zero s p q = refl
enough inner zero (suc m) [] p q = refl
enough inner zero (suc m) (x ∷ s) p q = absurd (omega arith)
enough inner (suc k) zero [] p q = refl
enough inner (suc k) zero (x ∷ s) p q = absurd (omega arith)
enough inner (suc k) (suc m) [] p q = refl
enough inner (suc k) (suc m) (x ∷ s) p q =
    well_formed_lem inner (siblings inner k) (siblings inner m) (first_element (x ∷ s)) (length s) (shorter x s) (λ r h. enough inner k m r (omega arith) (omega arith))

-- the first element, and then the rest
step : (d : ℕ) (s : List ℕ) → (length s ≡ 0 → ⊥) → whole_elements (suc d) s ≡ well_formed (whole_elements d) (whole_elements (suc d)) (first_element s)
unfolding siblings whole_elements
step d [] h = absurd (h refl)
step d (x ∷ s) h =
    well_formed_lem _ _ _ (first_element (x ∷ s)) (length s) (shorter x s) (λ r h. enough (whole_elements d) (length s) (length r) r h (omega arith))

pub none_left : (d : ℕ) (s : List ℕ) → true ≡ eqb (length s) 0 → true ≡ whole_elements d s
unfolding whole_elements siblings
none_left zero [] h = refl
none_left (suc d) [] h = refl
none_left d (x ∷ s) h =
    let f : true ≡ false = h ∙ ne_eqb (suc (length s)) 0 (λ (e : suc (length s) ≡ 0). omega arith) in
    absurd (let z : ◌≡◌ {A = ℕ} 0 1 = cc in omega arith)

pub too_deep : (d : ℕ) (s : List ℕ) → d ≡ 0 → false ≡ eqb (length s) 0 → false ≡ whole_elements d s
unfolding whole_elements
too_deep zero [] e h = h
too_deep zero (x ∷ s) e h = refl
too_deep (suc d) s e h = absurd (omega arith)

-- the rest is judged where the first element is sound
abbrev pub followed : (List ℕ → Bool) → Element → Bool
followed more Bad = false
followed more (Whole tag c r) = more r

well_followed : (inner more : List ℕ → Bool) (e : Element) → well_formed inner more e ≡ followed more (checked inner e)
well_followed inner more Bad = refl
well_followed inner more (Whole tag c r) = split (not (constructed tag) || inner c)
  where
    split : (b : Bool) → (b && more r) ≡ followed more (cond b (Whole tag c r) Bad)
    split true = refl
    split false = refl

pub stepped : (d : ℕ) (s : List ℕ) → (d ≡ 0 → ⊥) → false ≡ eqb (length s) 0 → whole_elements d s ≡ followed (whole_elements d) (checked (whole_elements (d - 1)) (first_element s))
stepped zero s p h = absurd (p refl)
stepped (suc d) s p h =
    let k : suc d - 1 ≡ d = omega arith in
    rw k (step d s (some_left s h) ∙ well_followed (whole_elements d) (whole_elements (suc d)) (first_element s))

-- for a function that reads one element, and for one that reads all of them
pub ruleset one = (short, front, whole)

pub ruleset nested = (none_left, too_deep, stepped)
