-- Where an archive is refused for a record, it is for a field. Assumes nothing.
use Prim.{tt}
use Prim.Native.Nat.{ℕ, ◌+◌}
use native.Mathlib.Omega.{arith}
use mathlib.Core.Path.{◌∙◌, ◌≡◌, ap, refl, subst, sym}
use mathlib.Core.Bool.{Bool, true, false, cond, ◌&&◌, ◌||◌}
use mathlib.Core.List.{◌∷◌, List, []}
use lib.Dec.{eqb, leb}
use lib.ListN.{length, get_or, take, drop}
use Rattle.std.specs.Prelude.{⊤, None, Option, Some, Result, Ok, Err}
use Rattle.std.proofs.lemmas.Bool.{cond_both}
use Rattle.octets.specs.Lists.{all}
use Rattle.octets.specs.Numbers.{number_of}
use Rattle.octets.proofs.Lists.{eqb_eq, eqb_of, left, right, true_not_false}
use Rattle.board.specs.declared.Direction.{Direction}
use Rattle.board.specs.declared.AuxiliaryState.{AuxiliaryState}
use Rattle.board.specs.declared.PartyNumber.{PartyNumber}
use Rattle.board.specs.declared.CallState.TheVariants.{CallDelivered, Active}
use Rattle.board.specs.States.{direction_with, auxiliary_with}
use Rattle.events.specs.Records.{body_length, record_length}
use Rattle.events.specs.declared.Refusal.{Refusal}
use Rattle.events.specs.declared.Refusal.TheVariants.{UnknownKind as KindUnknown, FieldOutOfRange}
use Rattle.events.specs.EventRecords.{Request, Malformed, Progress, Release, Facility, Answer, Inform, request, in_range, sized, of_kind, field}
use Rattle.events.specs.EventRecords.{untyped_number_in, typed_number_in, open_body, progress_body, hold_body, facility_body, leg_facility_body, inform_body, valid_component}
use Rattle.log_archives.specs.declared.BadRecord.{BadRecord}
use Rattle.log_archives.specs.declared.NotRegrouped.{NotRegrouped}
use Rattle.log_archives.specs.declared.NotRegrouped.TheVariants.{Unfit, CutShort, UnknownKind, BodiesDisagree, Bad, TargetTooSmall}
use Rattle.log_archives.specs.Regrouping.{listed_kinds}
use Rattle.log_archives.specs.Undoing.{listed, well_formed, octets_of, undone_records}
use Rattle.log_archives.specs.Judging.{fit, refusal_in, bad_or_later, first_bad, unless_bad, fitting, log_of, first_unknown, unless_unknown, unpacked_records, unpacked_kinds, unpacked_counted, unpacked}
use Rattle.log_archives.proofs.Regrouped.{regrouped_records}
use Rattle.log_archives.proofs.ThereAndBack.{all_listed}

-- ---- one record

-- the refusal, where there is one, is for a field
abbrev OfField : Option Refusal → Type 0
OfField None = ⊤
OfField (Some c) = c ≡ FieldOutOfRange

record FieldIn (q : Request) : Type 0 where
  only : OfField (refusal_in q)

of_two : (t : Bool) (p q : Request) → FieldIn p → FieldIn q → FieldIn (cond t p q)
of_two true p q f g = f
of_two false p q f g = g

out_of_range : FieldIn (Malformed FieldOutOfRange)
out_of_range = record { only = refl }

field_in_open : (b : List ℕ) (n : PartyNumber) (d : Option Direction) → FieldIn (open_body b n d)
field_in_open b n None = out_of_range
field_in_open b n (Some d) = record { only = tt }

field_in_hold : (r : ℕ) (a : Option AuxiliaryState) → FieldIn (hold_body r a)
field_in_hold r None = out_of_range
field_in_hold r (Some a) = record { only = tt }

field_in_progress : (r s : ℕ) → FieldIn (progress_body r s)
field_in_progress r s =
    of_two (eqb s 4) (Progress r CallDelivered) _ (record { only = tt })
    (of_two (eqb s 10) (Progress r Active) _ (record { only = tt }) out_of_range)

field_in_facility : (r n : ℕ) (c : List ℕ) → FieldIn (facility_body r n c)
field_in_facility r n c = of_two (valid_component 32 n c) (Facility r (take n c)) _ (record { only = tt }) out_of_range

field_in_inform : (r n : ℕ) (c : List ℕ) → FieldIn (inform_body r n c)
field_in_inform r n c = of_two (valid_component 64 n c) (Inform r (take n c)) _ (record { only = tt }) out_of_range

module _ (k : ℕ) (b : List ℕ) (long : length b ≡ body_length k) where
  either : (n : ℕ) {others : Bool} {q other : Request} → FieldIn q → (others ≡ true → FieldIn other) → (eqb k n || others) ≡ true → FieldIn (cond (eqb k n) (sized n b q) other)
  either n {others} {q} {other} f later h = go (eqb k n) refl h
    where
      go : (t : Bool) → eqb k n ≡ t → (t || others) ≡ true → FieldIn (cond t (sized n b q) other)
      go true e h = rw (eqb_of (length b) (body_length n) (long ∙ ap body_length (eqb_eq k n e))) (of_two (in_range q) q _ f out_of_range)
      go false e h = later h

  -- of a listed kind and as long as its kind
  field_in_body : listed k ≡ true → FieldIn (of_kind k b)
  field_in_body =
      either 1 (field_in_open b (untyped_number_in b) (direction_with (get_or b 6 0)))
      (either 2 (field_in_progress (field 0 2 b) (get_or b 2 0))
      (either 3 (field_in_hold (field 0 2 b) (auxiliary_with (get_or b 2 0)))
      (either 4 {q = Release (field 0 4 b)} (record { only = tt })
      (either 5 (field_in_facility (field 0 2 b) (get_or b 2 0) (drop 3 b))
      (either 6 {q = Answer (field 0 4 b)} (record { only = tt })
      (either 7 {q = leg_facility_body b} (record { only = tt })
      (either 8 (field_in_inform (field 0 2 b) (get_or b 2 0) (drop 3 b))
      (either 9 {other = Malformed KindUnknown} (field_in_open b (typed_number_in b) (direction_with (get_or b 6 0)))
      (λ h. absurd (true_not_false h refl))))))))))

field_in_record : (r : List ℕ) → well_formed r ≡ true → FieldIn (request r)
unfolding request
field_in_record [] h = absurd (true_not_false h refl)
field_in_record (k ∷ b) h =
    let long = eqb_eq (length (k ∷ b)) (record_length k) (right (listed k) _ h) in
    field_in_body k b (omega (arith, long)) (left (listed k) _ h)

-- ---- several

abbrev Field : Option BadRecord → Type 0
Field None = ⊤
Field (Some b) = b.refusal ≡ FieldOutOfRange

first_field : (n : ℕ) (rs : List (List ℕ)) → all well_formed rs ≡ true → Field (first_bad n rs)
unfolding first_bad
first_field n [] h = tt
first_field n (r ∷ rs) h =
    go (refusal_in (request r)) (first_bad (n + 1) rs) (field_in_record r (left (well_formed r) (all well_formed rs) h)).only (first_field (n + 1) rs (right (well_formed r) (all well_formed rs) h))
  where
    go : (o : Option Refusal) (later : Option BadRecord) → OfField o → Field later → Field (bad_or_later (n + 1) o later)
    go None later f g = g
    go (Some c) later f g = f

-- ---- an archive

-- the record that is refused, where it is one
abbrev bad_in : Result (List ℕ) NotRegrouped → Option BadRecord
bad_in (Ok os) = None
bad_in (Err Unfit) = None
bad_in (Err CutShort) = None
bad_in (Err (UnknownKind n)) = None
bad_in (Err BodiesDisagree) = None
bad_in (Err (Bad b)) = Some b
bad_in (Err TargetTooSmall) = None

record FieldOf (o : Result (List ℕ) NotRegrouped) : Type 0 where
  only : Field (bad_in o)

no_record : {o : Result (List ℕ) NotRegrouped} → bad_in o ≡ None → FieldOf o
no_record e = record { only = subst Field (sym e) tt }

fitted : (o : Option BadRecord) (room : ℕ) (os : List ℕ) → Field o → FieldOf (unless_bad o (fitting room os))
fitted None room os f = cond_both (leb (length os) room) (Ok os) _ FieldOf (λ t. no_record refl) (λ t. no_record refl)
fitted (Some b) room os f = record { only = f }

of_known : (o : Option ℕ) {made : Result (List ℕ) NotRegrouped} → (o ≡ None → FieldOf made) → FieldOf (unless_unknown o made)
of_known None f = f refl
of_known (Some n) f = no_record refl

of_kinds : (front ks os : List ℕ) (room : ℕ) → FieldOf (unpacked_kinds front ks os room)
unfolding unpacked_kinds unpacked_records
of_kinds front ks os room =
    let rs = undone_records ks os in
    of_known (first_unknown 0 ks) (λ u. cond_both _ _ _ FieldOf
    (λ e. fitted (first_bad 0 rs) room (log_of front rs) (first_field 0 rs (regrouped_records ks os (all_listed 0 ks u) (eqb_eq (length os) (octets_of listed_kinds ks) e)).records))
    (λ t. no_record refl))

of_counted : (front os : List ℕ) (room : ℕ) → FieldOf (unpacked_counted front os room)
unfolding unpacked_counted
of_counted front os room =
    let n = number_of (take 4 os) in
    let later = drop 4 os in
    cond_both (leb 4 (length os) && leb n (length later)) (unpacked_kinds front (take n later) (drop n later) room) _ FieldOf
    (λ t. of_kinds front (take n later) (drop n later) room)
    (λ t. no_record refl)

-- "then 5 for a bad field in any record": by then no record is cut or of an unknown kind
pub only_fields : (a : List ℕ) (room : ℕ) (b : BadRecord) → unpacked a room ≡ Err (Bad b) → b.refusal ≡ FieldOutOfRange
unfolding unpacked
only_fields a room b e =
    let later = unpacked_counted (take 2 a) (drop 2 a) room in
    let f = cond_both (fit 65540 a) later (Err Unfit) FieldOf (λ t. of_counted (take 2 a) (drop 2 a) room) (λ t. no_record refl) in
    (subst FieldOf e f).only
