-- Worked examples, computed: which components are SubaddressTransfer invokes. Assumes nothing.
use mathlib.Core.Path.{◌≡◌, refl}
use mathlib.Core.List.{List, [], ◌∷◌}
use mathlib.Core.Bool.{true, false}
use Prim.Native.Nat.{ℕ}
use Rattle.elements.specs.Elements.{first_element, siblings, whole_elements}
use Rattle.component.specs.Arguments.{behind_operation, identified_in, arguments_in}
use Rattle.subaddresses.specs.SubaddressTransfer.{is_subaddress_transfer}

-- an invoke of this length, with identifier 5 and the object identifier that ends in `last`
invoke : ℕ → ℕ → List ℕ → List ℕ
invoke n last argument = 0xA1 ∷ n ∷ 0x02 ∷ 0x01 ∷ 0x05 ∷ 0x06 ∷ 0x06 ∷ 0x04 ∷ 0x00 ∷ 0x82 ∷ 0x71 ∷ 0x01 ∷ last ∷ argument

-- 20 octets, and then others
twenty : List ℕ → List ℕ
twenty s = 0x31 ∷ 0x32 ∷ 0x33 ∷ 0x34 ∷ 0x35 ∷ 0x36 ∷ 0x37 ∷ 0x38 ∷ 0x39 ∷ 0x30 ∷ 0x31 ∷ 0x32 ∷ 0x33 ∷ 0x34 ∷ 0x35 ∷ 0x36 ∷ 0x37 ∷ 0x38 ∷ 0x39 ∷ 0x30 ∷ s

-- ---- accepted
one_octet : is_subaddress_transfer (invoke 0x0E 0x03 (0x04 ∷ 0x01 ∷ 0x37 ∷ [])) ≡ true
unfolding invoke is_subaddress_transfer arguments_in identified_in behind_operation first_element whole_elements siblings
one_octet = refl

twenty_octets : is_subaddress_transfer (invoke 0x21 0x03 (0x04 ∷ 0x14 ∷ twenty [])) ≡ true
unfolding twenty invoke is_subaddress_transfer arguments_in identified_in behind_operation first_element whole_elements siblings
twenty_octets = refl

in_sequence : is_subaddress_transfer (invoke 0x12 0x03 (0x30 ∷ 0x05 ∷ 0x04 ∷ 0x03 ∷ 0x31 ∷ 0x32 ∷ 0x33 ∷ [])) ≡ true
unfolding invoke is_subaddress_transfer arguments_in identified_in behind_operation first_element whole_elements siblings
in_sequence = refl

with_odd_count : is_subaddress_transfer (invoke 0x15 0x03 (0x30 ∷ 0x08 ∷ 0x04 ∷ 0x03 ∷ 0x31 ∷ 0x32 ∷ 0x33 ∷ 0x01 ∷ 0x01 ∷ 0xFF ∷ [])) ≡ true
unfolding invoke is_subaddress_transfer arguments_in identified_in behind_operation first_element whole_elements siblings
with_odd_count = refl

-- ---- not accepted
no_octets_lem : is_subaddress_transfer (invoke 0x0D 0x03 (0x04 ∷ 0x00 ∷ [])) ≡ false
unfolding invoke is_subaddress_transfer arguments_in identified_in behind_operation first_element whole_elements siblings
no_octets_lem = refl

octets_21 : is_subaddress_transfer (invoke 0x22 0x03 (0x04 ∷ 0x15 ∷ twenty (0x31 ∷ []))) ≡ false
unfolding twenty invoke is_subaddress_transfer arguments_in identified_in behind_operation first_element whole_elements siblings
octets_21 = refl

element_behind : is_subaddress_transfer (invoke 0x10 0x03 (0x04 ∷ 0x01 ∷ 0x37 ∷ 0x05 ∷ 0x00 ∷ [])) ≡ false
unfolding invoke is_subaddress_transfer arguments_in identified_in behind_operation first_element whole_elements siblings
element_behind = refl

two_odd_counts : is_subaddress_transfer (invoke 0x18 0x03 (0x30 ∷ 0x0B ∷ 0x04 ∷ 0x03 ∷ 0x31 ∷ 0x32 ∷ 0x33 ∷ 0x01 ∷ 0x01 ∷ 0xFF ∷ 0x01 ∷ 0x01 ∷ 0xFF ∷ [])) ≡ false
unfolding invoke is_subaddress_transfer arguments_in identified_in behind_operation first_element whole_elements siblings
two_odd_counts = refl

-- the identifier 5 in two octets
padded_identifier : is_subaddress_transfer (0xA1 ∷ 0x0F ∷ 0x02 ∷ 0x02 ∷ 0x00 ∷ 0x05 ∷ 0x06 ∷ 0x06 ∷ 0x04 ∷ 0x00 ∷ 0x82 ∷ 0x71 ∷ 0x01 ∷ 0x03 ∷ 0x04 ∷ 0x01 ∷ 0x37 ∷ []) ≡ false
unfolding is_subaddress_transfer arguments_in identified_in behind_operation first_element whole_elements siblings
padded_identifier = refl

other_operation : is_subaddress_transfer (invoke 0x0E 0x04 (0x04 ∷ 0x01 ∷ 0x37 ∷ [])) ≡ false
unfolding invoke is_subaddress_transfer arguments_in identified_in behind_operation first_element whole_elements siblings
other_operation = refl
