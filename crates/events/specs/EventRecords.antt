-- Event records: what a record asks for, or why it is no record (document 01, "Event records", and its checks 3 to 5).
use Rattle.std.specs.Prelude.{ℕ, Bool, true, ◌&&◌, cond, List, [], ◌∷◌, eqb, leb, length, take, drop, get_or, None}
use Rattle.std.specs.Prelude.{Option, Some}
use Rattle.octets.specs.Numbers.{number_of}
use Rattle.board.specs.declared.Direction.{Direction}
use Rattle.board.specs.declared.CallState.{CallState}
use Rattle.board.specs.declared.CallState.TheVariants.{CallDelivered, Active}
use Rattle.board.specs.declared.AuxiliaryState.{AuxiliaryState}
use Rattle.board.specs.declared.PartyNumber.{PartyNumber}
use Rattle.board.specs.States.{direction_with, auxiliary_with, valid_reference}
use Rattle.board.specs.Soundness.{zeros, valid_number}
use Rattle.events.specs.declared.Refusal.{Refusal}
use Rattle.events.specs.declared.Refusal.TheVariants.{WrongLength, UnknownKind, FieldOutOfRange}
use Rattle.events.specs.Records.{body_length}

-- what a record asks for, with the content of its body
pub data Request : Type 0 where
  Malformed : Refusal → Request
  Open : (reference leg : ℕ) → Direction → PartyNumber → Request
  Progress : (reference : ℕ) → CallState → Request
  Hold : (reference : ℕ) → AuxiliaryState → Request
  Release : (leg : ℕ) → Request
  Facility : (reference : ℕ) (component : List ℕ) → Request
  Answer : (leg : ℕ) → Request
  -- the component is the first `count` of the octets
  LegFacility : (leg count : ℕ) (octets : List ℕ) → Request
  Inform : (reference : ℕ) (component : List ℕ) → Request

-- the number in n octets from place i of a body
abbrev pub field : ℕ → ℕ → List ℕ → ℕ
field i n body = number_of (take n (drop i body))

-- a number with a presentation and a type; "digit count 1, 15 octets", which end the body
abbrev pub number_in : ℕ → ℕ → List ℕ → PartyNumber
number_in p t digits = record { presentation = p; type_of_number = t; count = get_or digits 0 0; digits = drop 1 digits }

-- "reference 2, leg 4, direction 1 (0 outgoing, 1 incoming)", then the number
abbrev pub open_body : List ℕ → PartyNumber → Option Direction → Request
open_body b n None = Malformed FieldOutOfRange
open_body b n (Some d) = Open (field 0 2 b) (field 2 4 b) d n

-- "presentation 1, digit count 1, 15 octets"; "event 1 means type 0" (document 02, slip 8)
abbrev pub untyped_number_in : List ℕ → PartyNumber
untyped_number_in b = number_in (get_or b 7 0) 0 (drop 8 b)

-- "Event 9 is Open with that octet after presentation" (document 02, slip 8)
abbrev pub typed_number_in : List ℕ → PartyNumber
typed_number_in b = number_in (get_or b 7 0) (get_or b 8 0) (drop 9 b)

-- "reference 2, state 1: 4 or 10"
abbrev pub progress_body : ℕ → ℕ → Request
progress_body r s = cond (eqb s 4) (Progress r CallDelivered) (cond (eqb s 10) (Progress r Active) (Malformed FieldOutOfRange))

-- "reference 2, auxiliary 1: 0 to 3"
abbrev pub hold_body : ℕ → Option AuxiliaryState → Request
hold_body r None = Malformed FieldOutOfRange
hold_body r (Some a) = Hold r a

-- "count 1 (1 to 32), component, then zeros", and later 1 to 64
abbrev pub valid_component : ℕ → ℕ → List ℕ → Bool
valid_component most n c = leb 1 n && leb n most && zeros (drop n c)

-- "reference 2", then the component
abbrev pub facility_body : ℕ → ℕ → List ℕ → Request
facility_body r n c = cond (valid_component 32 n c) (Facility r (take n c)) (Malformed FieldOutOfRange)

-- "reference 2, count 1 of 1 to 64, component, zeros" (document 02, slip 6)
abbrev pub inform_body : ℕ → ℕ → List ℕ → Request
inform_body r n c = cond (valid_component 64 n c) (Inform r (take n c)) (Malformed FieldOutOfRange)

-- "leg 4, count 1 of 1 to 64, component, zeros" (document 02, slip 5); the component and the zeros end the body
abbrev pub leg_facility_body : List ℕ → Request
leg_facility_body b = LegFacility (field 0 4 b) (get_or b 4 0) (drop 5 b)

-- the fields that remain to be judged
abbrev pub in_range : Request → Bool
in_range (Malformed c) = true
in_range (Open r l d n) = valid_reference r && valid_number n
in_range (Progress r s) = valid_reference r
in_range (Hold r a) = valid_reference r
in_range (Release l) = true
in_range (Facility r c) = valid_reference r
in_range (Answer l) = true
in_range (LegFacility l n c) = eqb (length c) 64 && valid_component 64 n c
in_range (Inform r c) = valid_reference r

-- "5: a field outside its range, fill octets included"
abbrev pub ranged : Request → Request
ranged q = cond (in_range q) q (Malformed FieldOutOfRange)

-- "3: .. not as long as its kind"
abbrev pub sized : ℕ → List ℕ → Request → Request
sized k b q = cond (eqb (length b) (body_length k)) (ranged q) (Malformed WrongLength)

-- "4: kind not listed (judged before length)"
abbrev pub of_kind : ℕ → List ℕ → Request
of_kind k b =
    cond (eqb k 1) (sized 1 b (open_body b (untyped_number_in b) (direction_with (get_or b 6 0))))
    (cond (eqb k 2) (sized 2 b (progress_body (field 0 2 b) (get_or b 2 0)))
    (cond (eqb k 3) (sized 3 b (hold_body (field 0 2 b) (auxiliary_with (get_or b 2 0))))
    (cond (eqb k 4) (sized 4 b (Release (field 0 4 b)))
    (cond (eqb k 5) (sized 5 b (facility_body (field 0 2 b) (get_or b 2 0) (drop 3 b)))
    (cond (eqb k 6) (sized 6 b (Answer (field 0 4 b)))
    (cond (eqb k 7) (sized 7 b (leg_facility_body b))
    (cond (eqb k 8) (sized 8 b (inform_body (field 0 2 b) (get_or b 2 0) (drop 3 b)))
    (cond (eqb k 9) (sized 9 b (open_body b (typed_number_in b) (direction_with (get_or b 6 0))))
    (Malformed UnknownKind)))))))))

-- the kind, then the body; "3: record empty"
unfoldable pub request : List ℕ → Request
request [] = Malformed WrongLength
request (k ∷ b) = of_kind k b
