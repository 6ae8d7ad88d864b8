-- A record that is moved asks for the same, stays one record, and comes back. Assumes nothing.
use Prim.Native.Nat.{ℕ, ◌+◌, ◌≤◌}
use native.Mathlib.Omega.{arith}
use mathlib.Core.Path.{◌≡◌, refl, ap, ◌∙◌}
use mathlib.Core.Bool.{Bool, true, false, cond}
use mathlib.Core.List.{List, [], ◌∷◌, ◌++◌, map}
use lib.Dec.{eqb}
use lib.ListN.{length, get_or, take, drop}
use Rattle.std.specs.Prelude.{None, Option, Some}
use Rattle.octets.proofs.Lists.{eqb_eq}
use Rattle.board.specs.declared.Direction.{Direction}
use Rattle.board.specs.declared.PartyNumber.{PartyNumber}
use Rattle.board.specs.declared.AuxiliaryState.{AuxiliaryState}
use Rattle.board.specs.declared.CallState.TheVariants.{CallDelivered, Active}
use Rattle.board.specs.States.{direction_with, auxiliary_with}
use Rattle.events.specs.declared.Refusal.{Refusal}
use Rattle.events.specs.declared.Refusal.TheVariants.{WrongLength, UnknownKind, FieldOutOfRange}
use Rattle.events.specs.Records.{body_length, records}
use Rattle.events.specs.EventRecords.{Request, Malformed, Progress, Release, Facility, Answer, Inform, request, in_range, sized, ranged, of_kind, field}
use Rattle.events.specs.EventRecords.{untyped_number_in, typed_number_in, open_body, progress_body, hold_body}
use Rattle.events.specs.EventRecords.{valid_component, facility_body, leg_facility_body, inform_body}
use Rattle.events.proofs.LogRecords.{no_records, in_front}
use Rattle.log_forms.specs.declared.Form.{Form}
use Rattle.log_forms.specs.declared.Form.TheVariants.{Old, New}
use Rattle.log_forms.specs.declared.Fault.TheVariants.{NoOldForm}
use Rattle.log_forms.specs.Moving.{new_record, old_record, moved_record, moved_records, fault_in, fault, first_bad}
use Rattle.log_forms.proofs.MovedRecords.{no_fault_found, whole, open_long, typed_long, no_fault}

-- octets that are enough, by the first eight
eight : (P : List ℕ → Type 0) → ((a b c d e f g h : ℕ) (l : List ℕ) → P (a ∷ b ∷ c ∷ d ∷ e ∷ f ∷ g ∷ h ∷ l)) → (l : List ℕ) → 8 ≤ length l → P l
eight P p [] w = absurd (omega arith)
eight P p (a ∷ []) w = absurd (omega arith)
eight P p (a ∷ b ∷ []) w = absurd (omega arith)
eight P p (a ∷ b ∷ c ∷ []) w = absurd (omega arith)
eight P p (a ∷ b ∷ c ∷ d ∷ []) w = absurd (omega arith)
eight P p (a ∷ b ∷ c ∷ d ∷ e ∷ []) w = absurd (omega arith)
eight P p (a ∷ b ∷ c ∷ d ∷ e ∷ f ∷ []) w = absurd (omega arith)
eight P p (a ∷ b ∷ c ∷ d ∷ e ∷ f ∷ g ∷ []) w = absurd (omega arith)
eight P p (a ∷ b ∷ c ∷ d ∷ e ∷ f ∷ g ∷ h ∷ l) w = p a b c d e f g h l

-- ---- an Open of either kind is the same Open

open_typed : (b : List ℕ) → length b ≡ 24 → request (9 ∷ (take 8 b ++ (0 ∷ drop 8 b))) ≡ request (1 ∷ b)
unfolding request
open_typed b w = eight (λ (b : List ℕ). length b ≡ 24 → request (9 ∷ (take 8 b ++ (0 ∷ drop 8 b))) ≡ request (1 ∷ b)) at b (omega arith) w
  where
    at : (a b c d e f g h : ℕ) (l : List ℕ) → length (a ∷ b ∷ c ∷ d ∷ e ∷ f ∷ g ∷ h ∷ l) ≡ 24 →
        request (9 ∷ (take 8 (a ∷ b ∷ c ∷ d ∷ e ∷ f ∷ g ∷ h ∷ l) ++ (0 ∷ drop 8 (a ∷ b ∷ c ∷ d ∷ e ∷ f ∷ g ∷ h ∷ l)))) ≡ request (1 ∷ a ∷ b ∷ c ∷ d ∷ e ∷ f ∷ g ∷ h ∷ l)
    at a b c d e f g h l w = let n : length l ≡ 16 = omega arith in rw n

open_untyped : (b : List ℕ) → length b ≡ 25 → get_or b 8 0 ≡ 0 → request (1 ∷ (take 8 b ++ drop 9 b)) ≡ request (9 ∷ b)
unfolding request
open_untyped b w z = eight (λ (b : List ℕ). length b ≡ 25 → get_or b 8 0 ≡ 0 → request (1 ∷ (take 8 b ++ drop 9 b)) ≡ request (9 ∷ b)) at b (omega arith) w z
  where
    at : (a b c d e f g h : ℕ) (l : List ℕ) → length (a ∷ b ∷ c ∷ d ∷ e ∷ f ∷ g ∷ h ∷ l) ≡ 25 → get_or (a ∷ b ∷ c ∷ d ∷ e ∷ f ∷ g ∷ h ∷ l) 8 0 ≡ 0 →
        request (1 ∷ (take 8 (a ∷ b ∷ c ∷ d ∷ e ∷ f ∷ g ∷ h ∷ l) ++ drop 9 (a ∷ b ∷ c ∷ d ∷ e ∷ f ∷ g ∷ h ∷ l))) ≡ request (9 ∷ a ∷ b ∷ c ∷ d ∷ e ∷ f ∷ g ∷ h ∷ l)
    at a b c d e f g h [] w z = absurd (omega arith)
    at a b c d e f g h (t ∷ l) w z = let n : length l ≡ 16 = omega arith in rw (n, z)

-- ---- a record that has no fault on the way back has type 0

ranged_faultless : (form : Form) (q : Request) → fault_in form (ranged q) ≡ None → fault_in form q ≡ None
ranged_faultless form q e = go (in_range q) e
  where
    go : (t : Bool) → fault_in form (cond t q (Malformed FieldOutOfRange)) ≡ None → fault_in form q ≡ None
    go true e = e
    go false e = no_fault_found e

type_0 : (b : List ℕ) (n : PartyNumber) (d : Option Direction) → fault_in Old (open_body b n d) ≡ None → n.type_of_number ≡ 0
type_0 b n None e = no_fault_found e
type_0 b n (Some d) e = go (eqb n.type_of_number 0) refl e
  where
    go : (t : Bool) → eqb n.type_of_number 0 ≡ t → cond t None (Some NoOldForm) ≡ None → n.type_of_number ≡ 0
    go true h e = eqb_eq _ 0 h
    go false h e = no_fault_found e

untyped : (b : List ℕ) → length b ≡ 25 → fault Old (9 ∷ b) ≡ None → get_or b 8 0 ≡ 0
unfolding request
untyped b w e =
    let q = open_body b (typed_number_in b) (direction_with (get_or b 6 0)) in
    let s : fault_in Old (ranged q) ≡ None = rw (ap (λ (n : ℕ). eqb n 25) w) at e in
    type_0 b (typed_number_in b) (direction_with (get_or b 6 0)) (ranged_faultless Old q s)

-- ---- moved, a record asks for the same

same_new : (r : List ℕ) → fault New r ≡ None → request (new_record r) ≡ request r
same_new [] e = refl
same_new (k ∷ b) e = go (eqb k 1) refl
  where
    go : (t : Bool) → eqb k 1 ≡ t → request (cond t (9 ∷ (take 8 b ++ (0 ∷ drop 8 b))) (k ∷ b)) ≡ request (k ∷ b)
    go true h =
        let i = eqb_eq k 1 h in
        let w = open_long New (k ∷ b) e i in
        rw i (open_typed b (omega arith))
    go false h = refl

same_old : (r : List ℕ) → fault Old r ≡ None → request (old_record r) ≡ request r
same_old [] e = refl
same_old (k ∷ b) e = go (eqb k 9) refl
  where
    go : (t : Bool) → eqb k 9 ≡ t → request (cond t (1 ∷ (take 8 b ++ drop 9 b)) (k ∷ b)) ≡ request (k ∷ b)
    go true h =
        let i = eqb_eq k 9 h in
        let w = typed_long Old (k ∷ b) e i in
        let n : length b ≡ 25 = omega arith in
        rw i (open_untyped b n (untyped b n (rw i at e)))
    go false h = refl

pub same_request : (form : Form) (r : List ℕ) → fault form r ≡ None → request (moved_record form r) ≡ request r
same_request New r e = same_new r e
same_request Old r e = same_old r e

-- ---- moved records are the records of the moved log

-- a moved record has no fault either, so it is as long as its kind has it
pub still_faultless : (form : Form) (r : List ℕ) → fault form r ≡ None → fault form (moved_record form r) ≡ None
still_faultless form r e = ap (fault_in form) (same_request form r e) ∙ e

pub records_moved : (form : Form) (n : ℕ) (rs : List (List ℕ)) → first_bad form n rs ≡ None → records (moved_records form rs) ≡ map (moved_record form) rs
unfolding moved_records
records_moved form n [] e = no_records
records_moved form n (r ∷ rs) e =
    let p = no_fault form n r rs e in
    let m = moved_record form r in
    in_front m (moved_records form rs) (whole form m (still_faultless form r p.0)) ∙ ap (λ (l : List (List ℕ)). m ∷ l) (records_moved form (n + 1) rs p.1)

-- ---- a record that is not of kind 9 comes back

back_new : (k : ℕ) (b : List ℕ) → k ≡ 1 → 8 ≤ length b → old_record (9 ∷ (take 8 b ++ (0 ∷ drop 8 b))) ≡ k ∷ b
back_new k b i w = eight (λ (b : List ℕ). old_record (9 ∷ (take 8 b ++ (0 ∷ drop 8 b))) ≡ k ∷ b) (λ a b c d e f g h l. rw i) b w

pub back_again : (r : List ℕ) → fault New r ≡ None → eqb (get_or r 0 0) 9 ≡ false → old_record (new_record r) ≡ r
back_again [] e n = refl
back_again (k ∷ b) e n = go (eqb k 1) refl
  where
    go : (t : Bool) → eqb k 1 ≡ t → old_record (cond t (9 ∷ (take 8 b ++ (0 ∷ drop 8 b))) (k ∷ b)) ≡ k ∷ b
    go true h =
        let i = eqb_eq k 1 h in
        let w = open_long New (k ∷ b) e i in
        back_new k b i (omega arith)
    go false h = rw n

-- the fault on the way back is that of the way there
record SameFault (q : Request) : Type 0 where
  same : fault_in Old q ≡ fault_in New q

one_of : (t : Bool) (p q : Request) → SameFault p → SameFault q → SameFault (cond t p q)
one_of true p q x y = x
one_of false p q x y = y

malformed : (c : Refusal) → SameFault (Malformed c)
malformed c = record { same = refl }

sized_same : (k : ℕ) (b : List ℕ) (q : Request) → SameFault q → SameFault (sized k b q)
sized_same k b q s = one_of (eqb (length b) (body_length k)) (ranged q) (Malformed WrongLength) (one_of (in_range q) q (Malformed FieldOutOfRange) s (malformed FieldOutOfRange)) (malformed WrongLength)

open_same : (b : List ℕ) (d : Option Direction) → SameFault (open_body b (untyped_number_in b) d)
open_same b None = record { same = refl }
open_same b (Some d) = record { same = refl }

hold_same : (r : ℕ) (a : Option AuxiliaryState) → SameFault (hold_body r a)
hold_same r None = record { same = refl }
hold_same r (Some a) = record { same = refl }

progress_same : (r s : ℕ) → SameFault (progress_body r s)
progress_same r s =
    one_of (eqb s 4) (Progress r CallDelivered) (cond (eqb s 10) (Progress r Active) (Malformed FieldOutOfRange)) (record { same = refl })
    (one_of (eqb s 10) (Progress r Active) (Malformed FieldOutOfRange) (record { same = refl }) (malformed FieldOutOfRange))

facility_same : (r n : ℕ) (c : List ℕ) → SameFault (facility_body r n c)
facility_same r n c = one_of (valid_component 32 n c) (Facility r (take n c)) (Malformed FieldOutOfRange) (record { same = refl }) (malformed FieldOutOfRange)

inform_same : (r n : ℕ) (c : List ℕ) → SameFault (inform_body r n c)
inform_same r n c = one_of (valid_component 64 n c) (Inform r (take n c)) (Malformed FieldOutOfRange) (record { same = refl }) (malformed FieldOutOfRange)

not_9 : (k : ℕ) (p q : Request) → eqb k 9 ≡ false → SameFault q → SameFault (cond (eqb k 9) p q)
not_9 k p q n s = rw n s

kind_same : (k : ℕ) (b : List ℕ) → eqb k 9 ≡ false → SameFault (of_kind k b)
kind_same k b n =
    one_of (eqb k 1) _ _ (sized_same 1 b _ (open_same b (direction_with (get_or b 6 0))))
    (one_of (eqb k 2) _ _ (sized_same 2 b _ (progress_same (field 0 2 b) (get_or b 2 0)))
    (one_of (eqb k 3) _ _ (sized_same 3 b _ (hold_same (field 0 2 b) (auxiliary_with (get_or b 2 0))))
    (one_of (eqb k 4) _ _ (sized_same 4 b (Release (field 0 4 b)) (record { same = refl }))
    (one_of (eqb k 5) _ _ (sized_same 5 b _ (facility_same (field 0 2 b) (get_or b 2 0) (drop 3 b)))
    (one_of (eqb k 6) _ _ (sized_same 6 b (Answer (field 0 4 b)) (record { same = refl }))
    (one_of (eqb k 7) _ _ (sized_same 7 b (leg_facility_body b) (record { same = refl }))
    (one_of (eqb k 8) _ _ (sized_same 8 b _ (inform_same (field 0 2 b) (get_or b 2 0) (drop 3 b)))
    (not_9 k (sized 9 b (open_body b (typed_number_in b) (direction_with (get_or b 6 0)))) _ n (malformed UnknownKind)))))))))

same_fault : (r : List ℕ) → eqb (get_or r 0 0) 9 ≡ false → fault Old r ≡ fault New r
unfolding request
same_fault [] n = refl
same_fault (k ∷ b) n = (kind_same k b n).same

-- and has no fault on the way back
pub faultless_back : (r : List ℕ) → fault New r ≡ None → eqb (get_or r 0 0) 9 ≡ false → fault Old (new_record r) ≡ None
faultless_back r e n = ap (fault_in Old) (same_new r e) ∙ same_fault r n ∙ e
