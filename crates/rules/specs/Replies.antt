-- Reply records: as data, and as octets (document 01, "Reply records", and what "Serving it" tells the far parties).
use Rattle.std.specs.Prelude.{ℕ, Bool, true, false, ◌&&◌, ◌||◌, cond, List, [], ◌∷◌, ◌++◌, eqb, length, replicate}
use Rattle.std.specs.Prelude.{get_or, None, Option, Some}
use Rattle.digits.specs.Digits.{in_fifteen}
use Rattle.octets.specs.declared.IntegerOctets.{IntegerOctets}
use Rattle.octets.specs.Lists.{find}
use Rattle.octets.specs.Numbers.{two, four}
use Rattle.component.specs.declared.Answer.{Answer}
use Rattle.component.specs.declared.Answer.TheVariants as answer
use Rattle.component.specs.Answers.{answer_octets, filled}
use Rattle.board.specs.declared.PartyNumber.{PartyNumber}
use Rattle.board.specs.declared.Row.{Row}
use Rattle.board.specs.declared.RuleSet.{RuleSet}
use Rattle.board.specs.declared.RuleSet.TheVariants.{European, American}
use Rattle.board.specs.States.{delivered}
use Rattle.board.specs.declared.Connection.{Connection}
use Rattle.board.specs.declared.Connection.TheVariants.{WithUser, WithPartner}
use Rattle.board.specs.declared.Party.{Party}
use Rattle.board.specs.Entries.{occupied}
use Rattle.private_transfers.specs.declared.Indication.{Indication}
use Rattle.private_transfers.specs.declared.Indication.TheVariants.{Alerting, Active}
use Rattle.private_transfers.specs.EctInform.{Number, NotSent, Restricted, Given, EctInform}
-- a number as it is told
pub use Rattle.rules.specs.declared.TellNumber.{TellNumber}

-- a Reply's reference is the event's; a Tell, of either kind, has leg, message, description, number, subaddress request
pub data ReplyRecord : Type 0 where
  Reply : (reference : ℕ) → Answer → ReplyRecord
  Tell : (leg message description : ℕ) → TellNumber → (request : ℕ) → ReplyRecord
  Drop : (reference : ℕ) → ReplyRecord
  Gone : (leg : ℕ) → ReplyRecord
  -- count and octets are the event's
  PassOn : (leg count : ℕ) (octets : List ℕ) → ReplyRecord

-- "A Tell whose number is given with type 1 or 2" (document 02, slip 8); given is mark 1
abbrev pub typed : TellNumber → Bool
typed n = eqb n.mark 1 && (eqb n.type_of_number 1 || eqb n.type_of_number 2)

-- "all others stay 0x82"
abbrev pub untyped_tell : (leg message description : ℕ) → TellNumber → (request : ℕ) → List ℕ
untyped_tell l m d n s = 0x82 ∷ (four l ++ (m ∷ d ∷ n.mark ∷ s ∷ n.count ∷ n.digits))

-- "is record 0x86 (type octet before the digit count, body 25)"
abbrev pub typed_tell : (leg message description : ℕ) → TellNumber → (request : ℕ) → List ℕ
typed_tell l m d n s = 0x86 ∷ (four l ++ (m ∷ d ∷ n.mark ∷ s ∷ n.type_of_number ∷ n.count ∷ n.digits))

-- "0x81 Reply (35): the event's reference 2, count 1, component in 32 octets, zero filled. 0x82 Tell (24): leg 4,
-- message 1, description 1, number mark 1, subaddress request 1, digit count 1, digits 15. 0x83 Drop (2): reference.
-- 0x84 Gone (4): leg."
abbrev pub record_octets : ReplyRecord → List ℕ
record_octets (Reply r a) = 0x81 ∷ (two r ++ (length (answer_octets a) ∷ filled (answer_octets a)))
record_octets (Tell l m d n s) = cond (typed n) (typed_tell l m d n s) (untyped_tell l m d n s)
record_octets (Drop r) = 0x83 ∷ two r
record_octets (Gone l) = 0x84 ∷ four l
-- "reply record 0x85 with the same layout", which is "leg 4, count 1 .., component, zeros" (document 02, slip 5)
record_octets (PassOn l n c) = 0x85 ∷ (four l ++ (n ∷ c))

-- the octets of all records, in their order
unfoldable pub octets : List ReplyRecord → List ℕ
octets [] = []
octets (r ∷ rs) = record_octets r ++ octets rs

-- ---- "Number mark: 0 unknown, or not sent; 2 withheld, where digits exist but are restricted; 1 given."
-- ---- "Digits appear only with 1; else digit count and digits are zero."

abbrev pub mark_only : ℕ → TellNumber
mark_only m = record { mark = m; type_of_number = 0; count = 0; digits = replicate 15 0 }

abbrev pub given : ℕ → ℕ → List ℕ → TellNumber
given t n ds = record { mark = 1; type_of_number = t; count = n; digits = ds }

abbrev pub number_as_told : PartyNumber → TellNumber
number_as_told n =
    cond (eqb n.count 0) (mark_only 0)
    (cond (eqb n.presentation 1) (mark_only 2) (given n.type_of_number n.count n.digits))

abbrev pub number_of_row : Option Row → TellNumber
number_of_row None = mark_only 0
number_of_row (Some r) = number_as_told r.number

-- the number of the party at a leg
abbrev pub number_at : List Row → ℕ → TellNumber
number_at rows l = number_of_row (find (λ (r : Row). eqb l r.leg && occupied r.standing) rows)

-- "given, withheld for 81 00, else mark 0" (document 02, slip 6); "a number from event 8 has type 0" (slip 8)
abbrev pub number_as_received : Number → TellNumber
number_as_received NotSent = mark_only 0
number_as_received Restricted = mark_only 2
number_as_received (Given ds) = given 0 (length ds) (in_fifteen ds)

-- ---- what the far parties are told

abbrev pub facility : ℕ
facility = 0

abbrev pub notify : ℕ
notify = 1

-- "E9 call transferred, alerting; EA call transferred, active"
abbrev pub transferred_alerting : ℕ
transferred_alerting = 0xE9

abbrev pub transferred_active : ℕ
transferred_active = 0xEA

-- "the alerting one NOTIFY, EA, the other's number, request 0"; by American rules "An alerting party gets no Tell until
-- it answers" (document 02, slip 7)
abbrev pub alerting_party_told : RuleSet → ℕ → TellNumber → List ReplyRecord
alerting_party_told European l n = Tell l notify transferred_active n 0 ∷ []
alerting_party_told American l n = []

-- a leg, whether it alerts itself, whether the other does, and the other's number:
-- "Both Active: each is told FACILITY, EA, the other's number, request 1. One alerting: the Active one FACILITY, E9,
-- mark 0, request 1". Two calls that pair are never both Delivered.
abbrev pub told : RuleSet → ℕ → Bool → Bool → TellNumber → List ReplyRecord
told rules l false false n = Tell l facility transferred_active n 1 ∷ []
told rules l false true n = Tell l facility transferred_alerting (mark_only 0) 1 ∷ []
told rules l true other n = alerting_party_told rules l n

-- "then two Tells, the named call's party first", each with the other's number; by American rules none to
-- a leg that alerts
abbrev pub tells : RuleSet → (ℕ → TellNumber) → Party → Party → List ReplyRecord
tells rules numbers p q =
    told rules p.leg (delivered p.call) (delivered q.call) (numbers q.leg)
    ++ told rules q.leg (delivered q.call) (delivered p.call) (numbers p.leg)

-- "The named call's Drop comes first, the other second." (document 02, slip 3)
abbrev pub drops : ℕ → ℕ → List ReplyRecord
drops named other = Drop named ∷ Drop other ∷ []

-- "NOTIFY, E9, request 0 for alerting; FACILITY, EA, request 1 for active"; "for alerting that element, in either form,
-- is ignored and the mark is 0" (document 02, slip 6)
abbrev pub inform_record : ℕ → Indication → TellNumber → ReplyRecord
inform_record l Alerting n = Tell l notify transferred_alerting (mark_only 0) 0
inform_record l Active n = Tell l facility transferred_active n 1

-- ---- what an event writes

-- its records, by the number of the party at each leg, which the rows have
abbrev pub Written : Type 0
Written = (ℕ → TellNumber) → List ReplyRecord

-- "Open, Progress and Hold write nothing"
abbrev pub nothing : Written
nothing numbers = []

-- the answer to the component of a Facility, on "the event's reference"
abbrev pub replied : ℕ → Answer → Written
replied r a numbers = Reply r a ∷ []

-- "A transfer writes Reply (A2, identifier only) on the named reference, two Drops .., then two Tells"
abbrev pub transfer_replies : RuleSet → ℕ → IntegerOctets → Party → Party → Written
transfer_replies rules r i p q numbers =
    Reply r (answer.Result i) ∷ (drops p.call.reference.0 q.call.reference.0 ++ tells rules numbers p q)

-- "Release of a served call writes one Drop; of a joined leg, one Gone for the partner."
abbrev pub release_replies : Connection → Written
release_replies (WithUser c) numbers = Drop c.reference.0 ∷ []
release_replies (WithPartner p a) numbers = Gone p ∷ []

-- by American rules, what the leg that answers is told: "then its partner and, after that, itself are told FACILITY,
-- EA, with the other's number, request 0" (document 02, slip 7)
abbrev pub answering_party_told : RuleSet → ℕ → TellNumber → List ReplyRecord
answering_party_told European l n = []
answering_party_told American l n = Tell l facility transferred_active n 0 ∷ []

-- "Answer tells the partner FACILITY, EA, the answering number, request 0 (H)."
abbrev pub answer_told : RuleSet → ℕ → ℕ → Written
answer_told rules l partner numbers =
    Tell partner facility transferred_active (numbers l) 0 ∷ answering_party_told rules l (numbers partner)

-- "passed on unchanged to the partner .. as reply record 0x85 with .. the partner's leg" (document 02, slip 5)
abbrev pub passed_on_record : ℕ → ℕ → List ℕ → Written
passed_on_record partner n c numbers = PassOn partner n c ∷ []

-- "The far party of that call gets one Tell .. The number is as received, whether or not the row's own party is
-- restricted" (document 02, slip 6): the numbers that the rows have are not looked at
abbrev pub inform_told : ℕ → EctInform → Written
inform_told l i numbers = inform_record l i.indication (number_as_received i.number) ∷ []

-- ---- "An error answer is a Reply whose component begins A3 or A4."

abbrev pub error_tag : ℕ → Bool
error_tag t = eqb t 0xA3 || eqb t 0xA4

abbrev pub error_record : ReplyRecord → Bool
error_record (Reply r a) = error_tag (get_or (answer_octets a) 0 0)
error_record (Tell l m d n s) = false
error_record (Drop r) = false
error_record (Gone l) = false
error_record (PassOn l n c) = false

-- the same of the octets written: a Reply is written before any other record, its component from the fifth octet on
abbrev pub error_octets : List ℕ → Bool
error_octets os = eqb (get_or os 0 0) 0x81 && error_tag (get_or os 4 0)
