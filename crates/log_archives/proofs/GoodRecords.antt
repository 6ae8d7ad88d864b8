-- Records that are not refused are well formed. Assumes nothing.
use Prim.Native.Nat.{ℕ, ◌+◌}
use native.Mathlib.Omega.{arith}
use mathlib.Core.Path.{◌≡◌, refl, ap, sym, ◌∙◌}
use mathlib.Core.Bool.{Bool, true, false, cond}
use mathlib.Core.List.{List, [], ◌∷◌}
use lib.Dec.{eqb}
use lib.ListN.{length, get_or, drop}
use Rattle.std.specs.Prelude.{None, Option, Some}
use Rattle.octets.specs.Lists.{all}
use Rattle.octets.proofs.Lists.{both, eqb_eq, eqb_of}
use Rattle.board.specs.States.{direction_with, auxiliary_with}
use Rattle.events.specs.Records.{body_length, record_length}
use Rattle.events.specs.declared.Refusal.{Refusal}
use Rattle.events.specs.declared.Refusal.TheVariants.{WrongLength, UnknownKind}
use Rattle.events.specs.EventRecords.{Request, Malformed, Release, Answer, request, sized, ranged, of_kind, field}
use Rattle.events.specs.EventRecords.{untyped_number_in, typed_number_in, open_body, progress_body, hold_body, facility_body, leg_facility_body, inform_body}
use Rattle.log_archives.specs.Undoing.{listed, well_formed}
use Rattle.log_archives.specs.Judging.{refusal_in, bad_or_later, first_bad}

pub no_refusal_found : {B A : Type 0} {x : B} → Some x ≡ None → A
no_refusal_found e = absurd (let z : ◌≡◌ {A = ℕ} 0 1 = cc in omega arith)

-- ---- one record

record Good (q : Request) : Type 0 where
  none : refusal_in q ≡ None

record Whole (k : ℕ) (b : List ℕ) : Type 0 where
  is_listed : listed k ≡ true
  long : length b ≡ body_length k

module _ (k : ℕ) (b : List ℕ) where
  of_length : (n : ℕ) (q : Request) → Good (sized n b q) → length b ≡ body_length n
  of_length n q e = go (eqb (length b) (body_length n)) refl e.none
    where
      go : (t : Bool) → eqb (length b) (body_length n) ≡ t → refusal_in (cond t (ranged q) (Malformed WrongLength)) ≡ None → length b ≡ body_length n
      go true h e = eqb_eq _ _ h
      go false h e = no_refusal_found e

  either : (n : ℕ) → listed n ≡ true → (q other : Request) → (Good other → Whole k b) → Good (cond (eqb k n) (sized n b q) other) → Whole k b
  either n l q other later e = go (eqb k n) refl e
    where
      go : (t : Bool) → eqb k n ≡ t → Good (cond t (sized n b q) other) → Whole k b
      go true h e =
          let same = eqb_eq k n h in
          record { is_listed = ap listed same ∙ l; long = of_length n q e ∙ ap body_length (sym same) }
      go false h e = later e

  body_whole : Good (of_kind k b) → Whole k b
  body_whole e =
      either 1 refl (open_body b (untyped_number_in b) (direction_with (get_or b 6 0))) _
      (either 2 refl (progress_body (field 0 2 b) (get_or b 2 0)) _
      (either 3 refl (hold_body (field 0 2 b) (auxiliary_with (get_or b 2 0))) _
      (either 4 refl (Release (field 0 4 b)) _
      (either 5 refl (facility_body (field 0 2 b) (get_or b 2 0) (drop 3 b)) _
      (either 6 refl (Answer (field 0 4 b)) _
      (either 7 refl (leg_facility_body b) _
      (either 8 refl (inform_body (field 0 2 b) (get_or b 2 0) (drop 3 b)) _
      (either 9 refl (open_body b (typed_number_in b) (direction_with (get_or b 6 0))) _
      (λ (u : Good (Malformed UnknownKind)). no_refusal_found u.none))))))))) e

pub good_record : (r : List ℕ) → refusal_in (request r) ≡ None → well_formed r ≡ true
unfolding request
good_record [] e = no_refusal_found e
good_record (k ∷ b) e =
    let w = body_whole k b (record { none = e }) in
    both w.is_listed (eqb_of (length (k ∷ b)) (record_length k) (omega (arith, w.long)))

-- ---- several

-- the first of them is not refused, and those behind are good
pub none_bad : (n : ℕ) (r : List ℕ) (rs : List (List ℕ)) → first_bad n (r ∷ rs) ≡ None → (refusal_in (request r) ≡ None) × (first_bad (n + 1) rs ≡ None)
unfolding first_bad
none_bad n r rs e = go (refusal_in (request r)) refl e
  where
    go : (o : Option Refusal) → refusal_in (request r) ≡ o → bad_or_later (n + 1) o (first_bad (n + 1) rs) ≡ None → (refusal_in (request r) ≡ None) × (first_bad (n + 1) rs ≡ None)
    go None h e = (h, e)
    go (Some c) h e = no_refusal_found e

-- from whatever number they are counted
pub renumbered : (n m : ℕ) (rs : List (List ℕ)) → first_bad n rs ≡ None → first_bad m rs ≡ None
unfolding first_bad
renumbered n m [] e = refl
renumbered n m (r ∷ rs) e = let p = none_bad n r rs e in rw p.0 (renumbered (n + 1) (m + 1) rs p.1)

pub good_well_formed : (n : ℕ) (rs : List (List ℕ)) → first_bad n rs ≡ None → all well_formed rs ≡ true
good_well_formed n [] e = refl
good_well_formed n (r ∷ rs) e = let p = none_bad n r rs e in both (good_record r p.0) (good_well_formed (n + 1) rs p.1)
