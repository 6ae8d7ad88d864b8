-- The arguments of an invoke whose operation is an object identifier of the supplementary service (document 02, slip
-- 5), read by the rules of document 01, "Reading a component".
use Rattle.std.specs.Prelude.{ℕ, ◌&&◌, cond, List, [], ◌∷◌, eqb, length, None, Option, Some}
use Rattle.octets.specs.declared.IntegerOctets.{IntegerOctets}
use Rattle.octets.specs.Lists.{same_octets}
use Rattle.octets.specs.Tests.{bind_option}
use Rattle.elements.specs.Elements.{first_element, whole_elements}
use Rattle.elements.specs.Values.{integer_in, object_in, rest_of}
use Rattle.component.specs.Reading.{ect_object}

-- the octets behind an operation that is the object identifier with this last number
abbrev pub behind_object : ℕ → Option (List ℕ) → List ℕ → Option (List ℕ)
behind_object last None rest = None
behind_object last (Some o) rest = cond (same_octets o (ect_object last)) (Some rest) None

unfoldable pub behind_operation : ℕ → List ℕ → Option (List ℕ)
behind_operation last s = behind_object last (object_in (first_element s)) (rest_of (first_element s))

-- the octets behind an invoke identifier
abbrev pub behind_identifier : Option IntegerOctets → List ℕ → Option (List ℕ)
behind_identifier None rest = None
behind_identifier (Some i) rest = Some rest

-- the octets behind the identifier of an invoke: first octet A1, "length octet .. exactly count minus 2", contents
-- whole elements, first element an integer
unfoldable pub identified_in : List ℕ → Option (List ℕ)
identified_in [] = None
identified_in (t ∷ []) = None
identified_in (t ∷ n ∷ s) =
    cond (eqb t 0xA1 && (eqb n (length s) && whole_elements 4 s)) (behind_identifier (integer_in (first_element s)) (rest_of (first_element s))) None

-- the octets behind the operation of an invoke of the object identifier with this last number; none where it is no
-- such invoke
unfoldable pub arguments_in : ℕ → List ℕ → Option (List ℕ)
arguments_in last c = bind_option (behind_operation last) (identified_in c)
