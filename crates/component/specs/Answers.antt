-- The components written: Rejects (document 01, "Reading a component"), errors and results ("Serving it").
use Rattle.std.specs.Prelude.{ℕ, ◌-◌, List, [], ◌∷◌, ◌++◌, length, replicate}
use Rattle.octets.specs.declared.IntegerOctets.{IntegerOctets}
use Rattle.octets.specs.declared.IntegerOctets.TheVariants.{One, Two}
use Rattle.octets.specs.Numbers.{fewest}
use Rattle.component.specs.declared.Reject.{Reject}
use Rattle.component.specs.declared.Reject.TheVariants.{Null, General, Invoke}
use Rattle.component.specs.declared.Answer.{Answer}
use Rattle.component.specs.declared.Answer.TheVariants as answer
use Rattle.component.specs.declared.Component.{Component}
use Rattle.component.specs.Reading.{ect_object}

-- an element: its tag, its length, its contents
abbrev pub element : ℕ → List ℕ → List ℕ
element tag contents = tag ∷ length contents ∷ contents

abbrev pub contents_of : IntegerOctets → List ℕ
contents_of (One a) = a ∷ []
contents_of (Two a b) = a ∷ b ∷ []

-- "Identifiers are repeated as received."
abbrev pub integer : IntegerOctets → List ℕ
integer o = element 0x02 (contents_of o)

-- "A4 05 05 00 80 01 p"; "Reject with identifier: A4, length, identifier, then 80 01 p (general) or 81 01 p (invoke)."
abbrev pub reject_octets : Reject → List ℕ
reject_octets (Null p) = element 0xA4 (0x05 ∷ 0x00 ∷ 0x80 ∷ 0x01 ∷ p ∷ [])
reject_octets (General i p) = element 0xA4 (integer i ++ (0x80 ∷ 0x01 ∷ p ∷ []))
reject_octets (Invoke i p) = element 0xA4 (integer i ++ (0x81 ∷ 0x01 ∷ p ∷ []))

-- "Errors are A3, identifier, then 02 01 e, or 06 06 04 00 82 71 01 15 for linkIdNotAssignedByNetwork."
-- A transfer's result is "A2, identifier only"; a LinkId's "A2, identifier, 30 { operation, 02 LinkId in fewest octets }".
unfoldable pub answer_octets : Answer → List ℕ
answer_octets (answer.Rejected r) = reject_octets r
answer_octets (answer.Error i e) = element 0xA3 (integer i ++ (0x02 ∷ 0x01 ∷ e ∷ []))
answer_octets (answer.LinkIdNotAssigned i) = element 0xA3 (integer i ++ element 0x06 (ect_object 0x15))
answer_octets (answer.Result i) = element 0xA2 (integer i)
answer_octets (answer.LinkIdResult i l) = element 0xA2 (integer i ++ element 0x30 (element 0x06 (ect_object 0x04) ++ integer (fewest l.0)))

-- "component in 32 octets, zero filled" (document 01, "Reply records")
abbrev pub filled : List ℕ → List ℕ
filled c = c ++ replicate (32 - length c) 0

-- the component that answers, with its "count 1"
unfoldable pub encoded : Answer → Component
encoded a = record { octets = filled (answer_octets a); count = length (answer_octets a) }
