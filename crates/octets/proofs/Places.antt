-- Laws of places in a list: the lowest place that passes a test, the element there, and what a loop that goes through the places has so far.
use Rattle.std.specs.Prelude.{None, Option, Some, option_map}
use Prim.Native.Nat.{ℕ, zero, suc, ◌+◌, ◌-◌, ◌<◌, zero-le, suc-le-suc}
use native.Mathlib.Nat.{le_of_suc-le-suc, not-suc-le-zero}
use native.Mathlib.Omega.{arith}
use mathlib.Core.Path.{◌≡◌, refl, sym, ap, ap₂, ◌∙◌}
use mathlib.Core.Bool.{Bool, true, false, ◌||◌}
use mathlib.Core.List.{List, [], ◌∷◌, ◌++◌, map}
use lib.ListN.{length, get_or, set, take, drop}
use Rattle.std.proofs.lemmas.List.{length-append, length-map, length-take, length-drop, get_or_default, take_rest}
use Rattle.std.proofs.lemmas.List.Edits.{map_over_more}
use Rattle.octets.specs.Lists.{any, or_else, find, cons_opt, filter_map, place_from}
use Rattle.octets.specs.Tests.{has, bind_option}

-- what a callee ensures of its result, and what the branch on it says
pub told : {A : Type 0} {r v t : A} → r ≡ v → r ≡ t → v ≡ t
told e h = sym e ∙ h

-- ---- the lowest place

module _ {A : Type 0} where
  place_suc : (p : A → Bool) (k : ℕ) (l : List A) → place_from p (suc k) l ≡ option_map suc (place_from p k l)
  unfolding place_from
  place_suc p k [] = refl
  place_suc p k (x ∷ l) = go (p x) (place_suc p (suc k) l)
    where
      go : (b : Bool) → place_from p (suc (suc k)) l ≡ option_map suc (place_from p (suc k) l) →
          or_else b (suc k) (place_from p (suc (suc k)) l) ≡ option_map suc (or_else b k (place_from p (suc k) l))
      go true e = refl
      go false e = e

  -- the search of a list by that of its tail
  pub place_cons : (p : A → Bool) (x : A) (l : List A) → place_from p 0 (x ∷ l) ≡ or_else (p x) 0 (option_map suc (place_from p 0 l))
  unfolding place_from
  place_cons p x l = ap (λ (o : Option ℕ). or_else (p x) 0 o) (place_suc p 0 l)

  -- i is the lowest place of l that passes p
  pub record Lowest (p : A → Bool) (d : A) (l : List A) (i : ℕ) : Type 0 where
    pub within : i < length l
    pub passes : p (get_or l i d) ≡ true
    pub earlier : (j : ℕ) → j < i → p (get_or l j d) ≡ false

  pub place_lowest : (p : A → Bool) (d : A) (l : List A) (i : ℕ) → place_from p 0 l ≡ Some i → Lowest p d l i
  unfolding place_from
  place_lowest p d [] i e = let z : ◌≡◌ {A = ℕ} 0 1 = cc in absurd (omega arith)
  place_lowest p d (x ∷ l) i e = go (p x) refl (place_from p 0 l) (place_lowest p d l) (sym (place_cons p x l) ∙ e)
    where
      before : (i : ℕ) → p x ≡ false → ((j : ℕ) → j < i → p (get_or l j d) ≡ false) → (j : ℕ) → j < suc i → p (get_or (x ∷ l) j d) ≡ false
      before i b f zero h = b
      before i b f (suc j) h = f j (le_of_suc-le-suc h)

      go : (b : Bool) → p x ≡ b → (o : Option ℕ) → ((j : ℕ) → o ≡ Some j → Lowest p d l j) → or_else b 0 (option_map suc o) ≡ Some i → Lowest p d (x ∷ l) i
      go true b o f q =
          let z : 0 ≡ i = cc in
          rw (sym z) (record { within = suc-le-suc zero-le; passes = b; earlier = λ j h. absurd (not-suc-le-zero h) })
      go false b None f q = let z : ◌≡◌ {A = ℕ} 0 1 = cc in absurd (omega arith)
      go false b (Some j) f q =
          let z : suc j ≡ i = cc in
          let r = f j refl in
          rw (sym z) (record { within = suc-le-suc r.within; passes = r.passes; earlier = before j b r.earlier })

  pub place_none : (p : A → Bool) (l : List A) → place_from p 0 l ≡ None → any p l ≡ false
  unfolding place_from
  place_none p [] e = refl
  place_none p (x ∷ l) e = go (p x) (place_from p 0 l) (place_none p l) (sym (place_cons p x l) ∙ e)
    where
      go : (b : Bool) (o : Option ℕ) → (o ≡ None → any p l ≡ false) → or_else b 0 (option_map suc o) ≡ None → (b || any p l) ≡ false
      go true o f q = let z : ◌≡◌ {A = ℕ} 0 1 = cc in absurd (omega arith)
      go false None f q = f refl
      go false (Some j) f q = let z : ◌≡◌ {A = ℕ} 0 1 = cc in absurd (omega arith)

  pub place_ext : (p q : A → Bool) (k : ℕ) (l : List A) → ((x : A) → p x ≡ q x) → place_from p k l ≡ place_from q k l
  unfolding place_from
  place_ext p q k [] f = refl
  place_ext p q k (x ∷ l) f = ap₂ (λ (b : Bool) (o : Option ℕ). or_else b k o) (f x) (place_ext p q (suc k) l f)

-- ---- what is found in a filter_map stands at the lowest place that gives it

module _ {A B : Type 0} where
  -- what f finds in the element at a place, if there is one
  abbrev pub value_at : (A → Option B) → A → List A → Option ℕ → Option B
  value_at f d l None = None
  value_at f d l (Some i) = f (get_or l i d)

  value_at_suc : (f : A → Option B) (d x : A) (l : List A) (o : Option ℕ) → value_at f d l o ≡ value_at f d (x ∷ l) (option_map suc o)
  value_at_suc f d x l None = refl
  value_at_suc f d x l (Some i) = refl

  pub find_filter_map : (q : B → Bool) (f : A → Option B) (d : A) (l : List A) → find q (filter_map f l) ≡ value_at f d l (place_from (λ (x : A). has q (f x)) 0 l)
  unfolding place_from
  find_filter_map q f d [] = refl
  find_filter_map q f d (x ∷ l) = go (f x) refl (find_filter_map q f d l) ∙ ap (value_at f d (x ∷ l)) (sym (place_cons (λ (y : A). has q (f y)) x l))
    where
      here : (b : Bool) (y : B) → f x ≡ Some y → find q (filter_map f l) ≡ value_at f d l (place_from (λ (y : A). has q (f y)) 0 l) →
          or_else b y (find q (filter_map f l)) ≡ value_at f d (x ∷ l) (or_else b 0 (option_map suc (place_from (λ (y : A). has q (f y)) 0 l)))
      here true y e h = sym e
      here false y e h = h ∙ value_at_suc f d x l (place_from (λ (y : A). has q (f y)) 0 l)

      go : (u : Option B) → f x ≡ u → find q (filter_map f l) ≡ value_at f d l (place_from (λ (y : A). has q (f y)) 0 l) →
          find q (cons_opt u (filter_map f l)) ≡ value_at f d (x ∷ l) (or_else (has q u) 0 (option_map suc (place_from (λ (y : A). has q (f y)) 0 l)))
      go None e h = h ∙ value_at_suc f d x l (place_from (λ (y : A). has q (f y)) 0 l)
      go (Some y) e h = here (q y) y e h

  pub filter_map_ext : (f g : A → Option B) (l : List A) → ((x : A) → f x ≡ g x) → filter_map f l ≡ filter_map g l
  filter_map_ext f g [] h = refl
  filter_map_ext f g (x ∷ l) h = ap₂ (λ (o : Option B) (r : List B). cons_opt o r) (h x) (filter_map_ext f g l h)

module _ {A B C : Type 0} where
  -- a filter_map of a filter_map is one
  pub filter_map_filter_map : (g : B → Option C) (f : A → Option B) (l : List A) → filter_map g (filter_map f l) ≡ filter_map (λ (x : A). bind_option g (f x)) l
  filter_map_filter_map g f [] = refl
  filter_map_filter_map g f (x ∷ l) = go (f x) (filter_map_filter_map g f l)
    where
      go : (u : Option B) → filter_map g (filter_map f l) ≡ filter_map (λ (y : A). bind_option g (f y)) l → filter_map g (cons_opt u (filter_map f l)) ≡ cons_opt (bind_option g u) (filter_map (λ (y : A). bind_option g (f y)) l)
      go None e = e
      go (Some y) e = ap (λ (r : List C). cons_opt (g y) r) e

-- ---- a loop that changes each element: those before i are changed, and those from i on are as they were

module _ {A : Type 0} (f : A → A) where
  abbrev pub changed_to : ℕ → List A → List A
  changed_to i l = map f (take i l) ++ drop i l

  pub changed_step : (i : ℕ) (l now : List A) (d v : A) → i < length l → now ≡ changed_to i l → v ≡ f (get_or now i d) → set now i v ≡ changed_to (i + 1) l
  changed_step i l now d v h e w =
      let within : i < length now = omega (arith, ap length e, length-append (map f (take i l)) (drop i l), length-map (take i l) f, length-take i l, length-drop i l) in
      ap (set now i) w ∙ map_over_more f l now i (get_or now i d) h e (get_or_default now i d (get_or now i d) within)

-- ---- a part from a place to the end

pub rest : {A : Type 0} (k : ℕ) (s : List A) → take (length s - k) (drop k s) ≡ drop k s
rest k s = take_rest s k
