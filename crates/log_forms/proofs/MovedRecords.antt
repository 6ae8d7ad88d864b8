-- Laws of a record that is moved. Assumes nothing.
use Prim.Native.Nat.{ℕ, ◌+◌, ◌*◌, ◌≤◌}
use native.Mathlib.Omega.{arith}
use mathlib.Core.Path.{◌≡◌, refl, ap, sym, ◌∙◌}
use mathlib.Core.Bool.{Bool, true, false, cond}
use mathlib.Core.List.{List, [], ◌∷◌, ◌++◌}
use lib.Dec.{eqb}
use lib.ListN.{length, get_or, take, drop, length-append, length-take, length-drop}
use Rattle.std.specs.Prelude.{None, Option, Some}
use Rattle.octets.proofs.Lists.{eqb_eq}
use Rattle.events.specs.Records.{body_length, record_length}
use Rattle.events.specs.declared.Refusal.TheVariants.{WrongLength, UnknownKind}
use Rattle.events.specs.EventRecords.{Request, Malformed, Release, Answer, request, sized, ranged, of_kind, field}
use Rattle.events.specs.EventRecords.{untyped_number_in, typed_number_in, open_body, progress_body, hold_body, facility_body, leg_facility_body, inform_body}
use Rattle.board.specs.States.{direction_with, auxiliary_with}
use Rattle.log_forms.specs.declared.Form.{Form}
use Rattle.log_forms.specs.declared.Form.TheVariants.{Old, New}
use Rattle.log_forms.specs.declared.Fault.{Fault}
use Rattle.log_forms.specs.Moving.{bad_or_later, first_bad, new_record, old_record, moved_record, fault_in, fault}

pub no_fault_found : {A : Type 0} {f : Fault} → Some f ≡ None → A
no_fault_found e = absurd (let z : ◌≡◌ {A = ℕ} 0 1 = cc in omega arith)

-- ---- a record without fault is as long as its kind has it

record Faultless (form : Form) (q : Request) : Type 0 where
  none : fault_in form q ≡ None

module _ (form : Form) (k : ℕ) (b : List ℕ) where
  of_length : (n : ℕ) (q : Request) → Faultless form (sized n b q) → length b ≡ body_length n
  of_length n q e = go (eqb (length b) (body_length n)) refl e.none
    where
      go : (t : Bool) → eqb (length b) (body_length n) ≡ t → fault_in form (cond t (ranged q) (Malformed WrongLength)) ≡ None → length b ≡ body_length n
      go true h e = eqb_eq _ _ h
      go false h e = no_fault_found e

  either : (n : ℕ) (q other : Request) → (Faultless form other → length b ≡ body_length k) → Faultless form (cond (eqb k n) (sized n b q) other) → length b ≡ body_length k
  either n q other later e = go (eqb k n) refl e
    where
      go : (t : Bool) → eqb k n ≡ t → Faultless form (cond t (sized n b q) other) → length b ≡ body_length k
      go true h e = of_length n q e ∙ ap body_length (sym (eqb_eq k n h))
      go false h e = later e

  body_whole : Faultless form (of_kind k b) → length b ≡ body_length k
  body_whole e =
      either 1 (open_body b (untyped_number_in b) (direction_with (get_or b 6 0))) _
      (either 2 (progress_body (field 0 2 b) (get_or b 2 0)) _
      (either 3 (hold_body (field 0 2 b) (auxiliary_with (get_or b 2 0))) _
      (either 4 (Release (field 0 4 b)) _
      (either 5 (facility_body (field 0 2 b) (get_or b 2 0) (drop 3 b)) _
      (either 6 (Answer (field 0 4 b)) _
      (either 7 (leg_facility_body b) _
      (either 8 (inform_body (field 0 2 b) (get_or b 2 0) (drop 3 b)) _
      (either 9 (open_body b (typed_number_in b) (direction_with (get_or b 6 0))) _
      (λ (u : Faultless form (Malformed UnknownKind)). no_fault_found u.none))))))))) e

pub whole : (form : Form) (r : List ℕ) → fault form r ≡ None → length r ≡ record_length (get_or r 0 0)
unfolding request
whole form [] e = no_fault_found e
whole form (k ∷ b) e = let h = body_whole form k b (record { none = e }) in omega arith

pub not_empty : (form : Form) (r : List ℕ) → fault form r ≡ None → 1 ≤ length r
not_empty form r e = omega (arith, whole form r e)

-- a record is at most doubled
new_twice : (r : List ℕ) → 1 ≤ length r → length (new_record r) ≤ 2 * length r
new_twice r h = go (eqb (get_or r 0 0) 1)
  where
    go : (t : Bool) → length (cond t (9 ∷ (take 8 (drop 1 r) ++ (0 ∷ drop 9 r))) r) ≤ 2 * length r
    go true = simp (length-append, length-take, length-drop) (omega arith)
    go false = omega arith

old_twice : (r : List ℕ) → 1 ≤ length r → length (old_record r) ≤ 2 * length r
old_twice r h = go (eqb (get_or r 0 0) 9)
  where
    go : (t : Bool) → length (cond t (1 ∷ (take 8 (drop 1 r) ++ drop 10 r)) r) ≤ 2 * length r
    go true = simp (length-append, length-take, length-drop) (omega arith)
    go false = omega arith

pub twice : (form : Form) (r : List ℕ) → 1 ≤ length r → length (moved_record form r) ≤ 2 * length r
twice New r h = new_twice r h
twice Old r h = old_twice r h

-- an Open is as long as its kind has it
pub open_long : (form : Form) (r : List ℕ) → fault form r ≡ None → get_or r 0 0 ≡ 1 → length r ≡ 25
open_long form r e k = whole form r e ∙ ap record_length k

pub typed_long : (form : Form) (r : List ℕ) → fault form r ≡ None → get_or r 0 0 ≡ 9 → length r ≡ 26
typed_long form r e k = whole form r e ∙ ap record_length k

-- ---- records without fault

-- the first of them has none, and those behind have none
pub no_fault : (form : Form) (n : ℕ) (r : List ℕ) (rs : List (List ℕ)) → first_bad form n (r ∷ rs) ≡ None → (fault form r ≡ None) × (first_bad form (n + 1) rs ≡ None)
unfolding first_bad
no_fault form n r rs e = go (fault form r) refl e
  where
    go : (o : Option Fault) → fault form r ≡ o → bad_or_later (n + 1) o (first_bad form (n + 1) rs) ≡ None → (fault form r ≡ None) × (first_bad form (n + 1) rs ≡ None)
    go None h e = (h, e)
    go (Some f) h e = absurd (let z : ◌≡◌ {A = ℕ} 0 1 = cc in omega arith)

-- from whatever number they are counted
pub renumbered : (form : Form) (n m : ℕ) (rs : List (List ℕ)) → first_bad form n rs ≡ None → first_bad form m rs ≡ None
unfolding first_bad
renumbered form n m [] e = refl
renumbered form n m (r ∷ rs) e = let p = no_fault form n r rs e in rw p.0 (renumbered form (n + 1) (m + 1) rs p.1)
