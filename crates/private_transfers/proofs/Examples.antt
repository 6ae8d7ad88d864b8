-- Worked examples, computed: what components say as EctInform invokes. Assumes nothing.
use Rattle.std.specs.Prelude.{None, Option, Some}
use mathlib.Core.Path.{◌≡◌, refl}
use mathlib.Core.List.{List, [], ◌∷◌}
use Prim.Native.Nat.{ℕ}
use Rattle.elements.specs.Elements.{first_element, siblings, whole_elements}
use Rattle.component.specs.Arguments.{behind_operation, identified_in, arguments_in}
use Rattle.private_transfers.specs.declared.Indication.{Indication}
use Rattle.private_transfers.specs.declared.Indication.TheVariants.{Alerting, Active}
use Rattle.private_transfers.specs.EctInform.{Number, NotSent, Restricted, Given, EctInform, inform_in}

-- an invoke of this length, with identifier 5 and the object identifier that ends in `last`
invoke : ℕ → ℕ → List ℕ → List ℕ
invoke n last argument = 0xA1 ∷ n ∷ 0x02 ∷ 0x01 ∷ 0x05 ∷ 0x06 ∷ 0x06 ∷ 0x04 ∷ 0x00 ∷ 0x82 ∷ 0x71 ∷ 0x01 ∷ last ∷ argument

-- 15 digits, and then others
fifteen : List ℕ → List ℕ
fifteen s = 0x31 ∷ 0x32 ∷ 0x33 ∷ 0x34 ∷ 0x35 ∷ 0x36 ∷ 0x37 ∷ 0x38 ∷ 0x39 ∷ 0x30 ∷ 0x31 ∷ 0x32 ∷ 0x33 ∷ 0x34 ∷ 0x35 ∷ s

abbrev says : Indication → Number → Option EctInform
says i n = Some (record { indication = i; number = n })

-- the digits 21
abbrev twenty_one : Number
twenty_one = Given (0x32 ∷ 0x31 ∷ [])

abbrev fifteen_digits : Number
fifteen_digits = Given (49 ∷ 50 ∷ 51 ∷ 52 ∷ 53 ∷ 54 ∷ 55 ∷ 56 ∷ 57 ∷ 48 ∷ 49 ∷ 50 ∷ 51 ∷ 52 ∷ 53 ∷ [])

-- ---- accepted
active_with_digits : inform_in (invoke 0x16 0x05 (0x30 ∷ 0x09 ∷ 0x0A ∷ 0x01 ∷ 0x01 ∷ 0xA0 ∷ 0x04 ∷ 0x80 ∷ 0x02 ∷ 0x32 ∷ 0x31 ∷ [])) ≡ says Active twenty_one
unfolding invoke inform_in arguments_in identified_in behind_operation first_element whole_elements siblings
active_with_digits = refl

alerting_with_digits : inform_in (invoke 0x16 0x05 (0x30 ∷ 0x09 ∷ 0x0A ∷ 0x01 ∷ 0x00 ∷ 0xA0 ∷ 0x04 ∷ 0x80 ∷ 0x02 ∷ 0x32 ∷ 0x31 ∷ [])) ≡ says Alerting twenty_one
unfolding invoke inform_in arguments_in identified_in behind_operation first_element whole_elements siblings
alerting_with_digits = refl

restricted_number : inform_in (invoke 0x12 0x05 (0x30 ∷ 0x05 ∷ 0x0A ∷ 0x01 ∷ 0x01 ∷ 0x81 ∷ 0x00 ∷ [])) ≡ says Active Restricted
unfolding invoke inform_in arguments_in identified_in behind_operation first_element whole_elements siblings
restricted_number = refl

no_number : inform_in (invoke 0x10 0x05 (0x30 ∷ 0x03 ∷ 0x0A ∷ 0x01 ∷ 0x01 ∷ [])) ≡ says Active NotSent
unfolding invoke inform_in arguments_in identified_in behind_operation first_element whole_elements siblings
no_number = refl

digits_15 : inform_in (invoke 0x23 0x05 (0x30 ∷ 0x16 ∷ 0x0A ∷ 0x01 ∷ 0x01 ∷ 0xA0 ∷ 0x11 ∷ 0x80 ∷ 0x0F ∷ fifteen [])) ≡ says Active fifteen_digits
unfolding fifteen invoke inform_in arguments_in identified_in behind_operation first_element whole_elements siblings
digits_15 = refl

-- ---- not accepted
digits_16 : inform_in (invoke 0x24 0x05 (0x30 ∷ 0x17 ∷ 0x0A ∷ 0x01 ∷ 0x01 ∷ 0xA0 ∷ 0x12 ∷ 0x80 ∷ 0x10 ∷ fifteen (0x36 ∷ []))) ≡ None
unfolding fifteen invoke inform_in arguments_in identified_in behind_operation first_element whole_elements siblings
digits_16 = refl

no_digits : inform_in (invoke 0x14 0x05 (0x30 ∷ 0x07 ∷ 0x0A ∷ 0x01 ∷ 0x01 ∷ 0xA0 ∷ 0x02 ∷ 0x80 ∷ 0x00 ∷ [])) ≡ None
unfolding invoke inform_in arguments_in identified_in behind_operation first_element whole_elements siblings
no_digits = refl

letter : inform_in (invoke 0x16 0x05 (0x30 ∷ 0x09 ∷ 0x0A ∷ 0x01 ∷ 0x01 ∷ 0xA0 ∷ 0x04 ∷ 0x80 ∷ 0x02 ∷ 0x32 ∷ 0x41 ∷ [])) ≡ None
unfolding invoke inform_in arguments_in identified_in behind_operation first_element whole_elements siblings
letter = refl

digits_without_a0 : inform_in (invoke 0x14 0x05 (0x30 ∷ 0x07 ∷ 0x0A ∷ 0x01 ∷ 0x01 ∷ 0x80 ∷ 0x02 ∷ 0x32 ∷ 0x31 ∷ [])) ≡ None
unfolding invoke inform_in arguments_in identified_in behind_operation first_element whole_elements siblings
digits_without_a0 = refl

restricted_with_contents : inform_in (invoke 0x13 0x05 (0x30 ∷ 0x06 ∷ 0x0A ∷ 0x01 ∷ 0x01 ∷ 0x81 ∷ 0x01 ∷ 0x32 ∷ [])) ≡ None
unfolding invoke inform_in arguments_in identified_in behind_operation first_element whole_elements siblings
restricted_with_contents = refl

element_behind_argument : inform_in (invoke 0x18 0x05 (0x30 ∷ 0x09 ∷ 0x0A ∷ 0x01 ∷ 0x01 ∷ 0xA0 ∷ 0x04 ∷ 0x80 ∷ 0x02 ∷ 0x32 ∷ 0x31 ∷ 0x05 ∷ 0x00 ∷ [])) ≡ None
unfolding invoke inform_in arguments_in identified_in behind_operation first_element whole_elements siblings
element_behind_argument = refl

element_behind_number : inform_in (invoke 0x18 0x05 (0x30 ∷ 0x0B ∷ 0x0A ∷ 0x01 ∷ 0x01 ∷ 0xA0 ∷ 0x04 ∷ 0x80 ∷ 0x02 ∷ 0x32 ∷ 0x31 ∷ 0x05 ∷ 0x00 ∷ [])) ≡ None
unfolding invoke inform_in arguments_in identified_in behind_operation first_element whole_elements siblings
element_behind_number = refl

element_behind_digits : inform_in (invoke 0x19 0x05 (0x30 ∷ 0x0C ∷ 0x0A ∷ 0x01 ∷ 0x01 ∷ 0xA0 ∷ 0x07 ∷ 0x80 ∷ 0x02 ∷ 0x32 ∷ 0x31 ∷ 0x80 ∷ 0x01 ∷ 0x32 ∷ [])) ≡ None
unfolding invoke inform_in arguments_in identified_in behind_operation first_element whole_elements siblings
element_behind_digits = refl

indication_02 : inform_in (invoke 0x16 0x05 (0x30 ∷ 0x09 ∷ 0x0A ∷ 0x01 ∷ 0x02 ∷ 0xA0 ∷ 0x04 ∷ 0x80 ∷ 0x02 ∷ 0x32 ∷ 0x31 ∷ [])) ≡ None
unfolding invoke inform_in arguments_in identified_in behind_operation first_element whole_elements siblings
indication_02 = refl

indication_of_two_octets : inform_in (invoke 0x17 0x05 (0x30 ∷ 0x0A ∷ 0x0A ∷ 0x02 ∷ 0x00 ∷ 0x01 ∷ 0xA0 ∷ 0x04 ∷ 0x80 ∷ 0x02 ∷ 0x32 ∷ 0x31 ∷ [])) ≡ None
unfolding invoke inform_in arguments_in identified_in behind_operation first_element whole_elements siblings
indication_of_two_octets = refl

-- the identifier 5 in two octets
padded_identifier : inform_in (0xA1 ∷ 0x17 ∷ 0x02 ∷ 0x02 ∷ 0x00 ∷ 0x05 ∷ 0x06 ∷ 0x06 ∷ 0x04 ∷ 0x00 ∷ 0x82 ∷ 0x71 ∷ 0x01 ∷ 0x05 ∷ 0x30 ∷ 0x09 ∷ 0x0A ∷ 0x01 ∷ 0x01 ∷ 0xA0 ∷ 0x04 ∷ 0x80 ∷ 0x02 ∷ 0x32 ∷ 0x31 ∷ []) ≡ None
unfolding inform_in arguments_in identified_in behind_operation first_element whole_elements siblings
padded_identifier = refl

other_operation : inform_in (invoke 0x16 0x04 (0x30 ∷ 0x09 ∷ 0x0A ∷ 0x01 ∷ 0x01 ∷ 0xA0 ∷ 0x04 ∷ 0x80 ∷ 0x02 ∷ 0x32 ∷ 0x31 ∷ [])) ≡ None
unfolding invoke inform_in arguments_in identified_in behind_operation first_element whole_elements siblings
other_operation = refl
