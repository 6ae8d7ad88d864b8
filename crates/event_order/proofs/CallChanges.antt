-- What Progress and Hold do to the rows: a change of one call leaves each call of another reference to be found as it was, and the changes of two calls commute.
use Rattle.std.specs.Prelude.{Option}
use Prim.Native.Nat.{ℕ}
use mathlib.Core.Path.{◌∙◌, ◌≡◌, ap, ap₂, refl, sym}
use mathlib.Core.Bool.{Bool, true, false, ◌&&◌, cond}
use mathlib.Core.List.{List, [], ◌∷◌, map}
use lib.Dec.{eqb}
use Rattle.octets.specs.declared.CallReference.{CallReference}
use Rattle.octets.specs.Lists.{or_else}
use Rattle.octets.proofs.Lists.{true_not_false, eqb_eq, eqb_of}
use Rattle.board.specs.declared.Call.{Call}
use Rattle.board.specs.declared.Party.{Party}
use Rattle.board.specs.declared.Row.{Row}
use Rattle.board.specs.declared.Standing.{Standing}
use Rattle.board.specs.declared.Standing.TheVariants.{Empty, Served, Joined}
use Rattle.board.specs.Changes.{map_standing, changed_call}
use Rattle.board.specs.Entries.{taken}
use Rattle.rules.specs.Checks.{named}

-- no number is each of two different ones
apart : (m n k : ℕ) → eqb m n ≡ false → (eqb m k && eqb n k) ≡ false
apart m n k h = go (eqb m k) (eqb n k) refl refl
  where
    go : (x y : Bool) → eqb m k ≡ x → eqb n k ≡ y → (x && y) ≡ false
    go true true a b = absurd (true_not_false (eqb_of m n (eqb_eq m k a ∙ sym (eqb_eq n k b))) h)
    go true false a b = refl
    go false y a b = refl

-- a call where it has the reference q is changed by f
abbrev changed : CallReference → (Call → Call) → Call → Call
changed q f c = cond (eqb q.0 c.reference.0) (f c) c

-- and so each row
abbrev pub call_changed : CallReference → (Call → Call) → List Row → List Row
call_changed q f rows = map (map_standing (changed_call q f)) rows

module _ (q : CallReference) (f : Call → Call) (kept : (c : Call) → (f c).reference.0 ≡ c.reference.0) where
  reference_kept : (c : Call) → (changed q f c).reference.0 ≡ c.reference.0
  reference_kept c = go (eqb q.0 c.reference.0)
    where
      go : (x : Bool) → (cond x (f c) c).reference.0 ≡ c.reference.0
      go true = kept c
      go false = refl

  pub same_named : (r : ℕ) → eqb r q.0 ≡ false → (rows : List Row) → named r (taken (call_changed q f rows)) ≡ named r (taken rows)
  same_named r differ [] = refl
  same_named r differ (x ∷ xs) = go x.standing (same_named r differ xs)
    where
      here : (c : Call) (y z : Bool) (o : Option Party) → (y && z) ≡ false → or_else y (record { leg = x.leg; call = cond z (f c) c }) o ≡ or_else y (record { leg = x.leg; call = c }) o
      here c true true o h = absurd (true_not_false refl h)
      here c true false o h = refl
      here c false z o h = refl

      go : (t : Standing) → named r (taken (call_changed q f xs)) ≡ named r (taken xs) →
          named r (taken (record { leg = x.leg; number = x.number; standing = changed_call q f x.leg t } ∷ call_changed q f xs)) ≡ named r (taken (record { leg = x.leg; number = x.number; standing = t } ∷ xs))
      go Empty h = h
      go (Joined p a) h = h
      go (Served c) h =
          ap₂ (λ (y : Bool) (o : Option Party). or_else y (record { leg = x.leg; call = changed q f c }) o) (ap (eqb r) (reference_kept c)) h
          ∙ here c (eqb r c.reference.0) (eqb q.0 c.reference.0) (named r (taken xs)) (apart r q.0 c.reference.0 differ)

module _ (q r : CallReference) (f g : Call → Call) (f_keeps : (c : Call) → (f c).reference.0 ≡ c.reference.0) (g_keeps : (c : Call) → (g c).reference.0 ≡ c.reference.0) (differ : eqb q.0 r.0 ≡ false) where
  calls_commute : (c : Call) → changed r g (changed q f c) ≡ changed q f (changed r g c)
  calls_commute c =
      ap (λ (y : Bool). cond y (g (changed q f c)) (changed q f c)) (ap (eqb r.0) (reference_kept q f f_keeps c))
      ∙ go (eqb q.0 c.reference.0) (eqb r.0 c.reference.0) (apart q.0 r.0 c.reference.0 differ)
      ∙ sym (ap (λ (x : Bool). cond x (f (changed r g c)) (changed r g c)) (ap (eqb q.0) (reference_kept r g g_keeps c)))
    where
      go : (x y : Bool) → (x && y) ≡ false → cond y (g (cond x (f c) c)) (cond x (f c) c) ≡ cond x (f (cond y (g c) c)) (cond y (g c) c)
      go true true h = absurd (true_not_false refl h)
      go true false h = refl
      go false true h = refl
      go false false h = refl

  standings_commute : (n : ℕ) (t : Standing) → changed_call r g n (changed_call q f n t) ≡ changed_call q f n (changed_call r g n t)
  standings_commute n Empty = refl
  standings_commute n (Served c) = ap Served (calls_commute c)
  standings_commute n (Joined p a) = refl

  pub rows_commute : (rows : List Row) → call_changed r g (call_changed q f rows) ≡ call_changed q f (call_changed r g rows)
  rows_commute [] = refl
  rows_commute (x ∷ xs) =
      ap₂ (λ (t : Standing) (rows : List Row). record { leg = x.leg; number = x.number; standing = t } ∷ rows) (standings_commute x.leg x.standing) (rows_commute xs)
