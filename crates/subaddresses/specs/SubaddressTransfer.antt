-- What is a SubaddressTransfer invoke (document 02, slip 5; ETS 300 369-1, 9.2.4).
use Rattle.std.specs.Prelude.{ℕ, Bool, true, false, ◌&&◌, ◌||◌, List, [], ◌∷◌, eqb, leb, length}
use Rattle.octets.specs.Tests.{has}
use Rattle.elements.specs.Elements.{Element, Bad, Whole, first_element, no_octets}
use Rattle.component.specs.Arguments.{arguments_in}

-- "04 of 1 to 20 octets"
abbrev pub is_subaddress : ℕ → ℕ → Bool
is_subaddress tag n = eqb tag 0x04 && (leb 1 n && leb n 20)

-- "one 01 of length 1", whatever its octet, and nothing behind
abbrev pub is_odd_count : Element → Bool
is_odd_count Bad = false
is_odd_count (Whole tag contents rest) = eqb tag 0x01 && (eqb (length contents) 1 && no_octets rest)

-- "and then perhaps"
abbrev pub perhaps_odd_count : List ℕ → Bool
perhaps_odd_count [] = true
perhaps_odd_count (x ∷ s) = is_odd_count (first_element (x ∷ s))

-- what the 30 holds: "such an 04 and then perhaps one 01 of length 1"
abbrev pub is_user_specified : Element → Bool
is_user_specified Bad = false
is_user_specified (Whole tag contents rest) = is_subaddress tag (length contents) && perhaps_odd_count rest

-- "Its argument is 04 of 1 to 20 octets, or 30 holding such an 04 and then perhaps one 01 of length 1, and nothing
-- follows it."
abbrev pub is_argument : Element → Bool
is_argument Bad = false
is_argument (Whole tag contents rest) =
    (is_subaddress tag (length contents) || (eqb tag 0x30 && is_user_specified (first_element contents))) && no_octets rest

-- "A SubaddressTransfer invoke (identifier ending 03 ..)"
unfoldable pub is_subaddress_transfer : List ℕ → Bool
is_subaddress_transfer c = has (λ (rest : List ℕ). is_argument (first_element rest)) (arguments_in 0x03 c)
