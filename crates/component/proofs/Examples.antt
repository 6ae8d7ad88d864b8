-- Worked examples, computed: what some components are read as, and LinkIds in the fewest octets. Assumes nothing.
use mathlib.Core.Path.{◌≡◌, refl}
use mathlib.Core.List.{List, [], ◌∷◌}
use Prim.Native.Nat.{ℕ}
use lib.IntN.{pos, negsuc}
use Rattle.octets.specs.declared.IntegerOctets.TheVariants.{One}
use Rattle.octets.specs.Numbers.{fewest}
use Rattle.component.specs.declared.Operation.TheVariants.{EctExecute, ExplicitEctExecute, EctLinkIdRequest}
use Rattle.component.specs.declared.Reject.TheVariants.{Null}
use Rattle.component.specs.declared.Reading.TheVariants.{Rejected, Invoked}
use Rattle.component.specs.declared.Answer.TheVariants.{LinkIdResult}
use Rattle.elements.specs.Elements.{first_element, siblings, whole_elements}
use Rattle.component.specs.Reading.{reading, invoke_reading, identified_reading}
use Rattle.component.specs.Answers.{integer, answer_octets}

-- document 01, the worked log: an EctLinkIdRequest and its result, LinkId 0
request : reading (0xA1 ∷ 0x0B ∷ 0x02 ∷ 0x01 ∷ 0x05 ∷ 0x06 ∷ 0x06 ∷ 0x04 ∷ 0x00 ∷ 0x82 ∷ 0x71 ∷ 0x01 ∷ 0x04 ∷ []) ≡ Invoked (One 0x05) EctLinkIdRequest
unfolding reading invoke_reading identified_reading first_element whole_elements siblings
request = refl

result : answer_octets (LinkIdResult (One 0x05) (record { 0 = pos 0 }))
    ≡ 0xA2 ∷ 0x10 ∷ 0x02 ∷ 0x01 ∷ 0x05 ∷ 0x30 ∷ 0x0B ∷ 0x06 ∷ 0x06 ∷ 0x04 ∷ 0x00 ∷ 0x82 ∷ 0x71 ∷ 0x01 ∷ 0x04 ∷ 0x02 ∷ 0x01 ∷ 0x00 ∷ []
unfolding answer_octets
result = refl

-- an ExplicitEctExecute of the LinkId -128
explicit : reading (0xA1 ∷ 0x0E ∷ 0x02 ∷ 0x01 ∷ 0x05 ∷ 0x06 ∷ 0x06 ∷ 0x04 ∷ 0x00 ∷ 0x82 ∷ 0x71 ∷ 0x01 ∷ 0x01 ∷ 0x02 ∷ 0x01 ∷ 0x80 ∷ [])
    ≡ Invoked (One 0x05) (ExplicitEctExecute (record { 0 = negsuc 127 }))
unfolding reading invoke_reading identified_reading first_element whole_elements siblings
explicit = refl

-- an EctExecute with an element more, and how deep elements nest in that one
with_more : ℕ → List ℕ → List ℕ
with_more n more = 0xA1 ∷ n ∷ 0x02 ∷ 0x01 ∷ 0x05 ∷ 0x02 ∷ 0x01 ∷ 0x06 ∷ more

depth_4 : reading (with_more 0x0E (0x30 ∷ 6 ∷ 0x30 ∷ 4 ∷ 0x30 ∷ 2 ∷ 0x02 ∷ 0 ∷ [])) ≡ Invoked (One 0x05) EctExecute
unfolding with_more reading invoke_reading identified_reading first_element whole_elements siblings
depth_4 = refl

depth_5 : reading (with_more 0x10 (0x30 ∷ 8 ∷ 0x30 ∷ 6 ∷ 0x30 ∷ 4 ∷ 0x30 ∷ 2 ∷ 0x02 ∷ 0 ∷ [])) ≡ Rejected (Null 2)
unfolding with_more reading first_element whole_elements siblings
depth_5 = refl

-- elements may be there at depth 4 and have nothing in them
no_octets_at_5 : reading (with_more 0x0E (0x30 ∷ 6 ∷ 0x30 ∷ 4 ∷ 0x30 ∷ 2 ∷ 0x30 ∷ 0 ∷ [])) ≡ Invoked (One 0x05) EctExecute
unfolding with_more reading invoke_reading identified_reading first_element whole_elements siblings
no_octets_at_5 = refl

-- document 01, situations: "LinkId octets"
octets_127 : integer (fewest (pos 127)) ≡ 0x02 ∷ 0x01 ∷ 0x7F ∷ []
octets_127 = refl

octets_128 : integer (fewest (pos 128)) ≡ 0x02 ∷ 0x02 ∷ 0x00 ∷ 0x80 ∷ []
octets_128 = refl

octets_minus_128 : integer (fewest (negsuc 127)) ≡ 0x02 ∷ 0x01 ∷ 0x80 ∷ []
octets_minus_128 = refl

octets_minus_129 : integer (fewest (negsuc 128)) ≡ 0x02 ∷ 0x02 ∷ 0xFF ∷ 0x7F ∷ []
octets_minus_129 = refl
