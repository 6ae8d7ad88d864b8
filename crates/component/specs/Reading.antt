-- What a component is read as (document 01, "Reading a component", in the order of its list).
use Rattle.std.specs.Prelude.{ℕ, ◌&&◌, cond, List, [], ◌∷◌, eqb, leb, pos, length, None, Option, Some}
use Rattle.octets.specs.declared.IntegerOctets.{IntegerOctets}
use Rattle.octets.specs.Lists.{same_octets}
use Rattle.octets.specs.Numbers.{integer_of, same_integer}
use Rattle.component.specs.declared.Operation.TheVariants.{EctExecute, ExplicitEctExecute, EctLinkIdRequest}
use Rattle.component.specs.declared.Reject.TheVariants.{Null, General, Invoke}
use Rattle.component.specs.declared.Reading.{Reading}
use Rattle.component.specs.declared.Reading.TheVariants.{Ignored, Rejected, Invoked}
use Rattle.elements.specs.Elements.{Element, first_element, whole_elements}
use Rattle.elements.specs.Values.{integer_in, object_in, rest_of}

-- "object identifier 04 00 82 71 01 then" one more
abbrev pub ect_object : ℕ → List ℕ
ect_object n = 0x04 ∷ 0x00 ∷ 0x82 ∷ 0x71 ∷ 0x01 ∷ n ∷ []

-- "ExplicitEctExecute: third element 02 of length 1 or 2, the LinkId; else invoke problem 2."
abbrev pub link_id_reading : IntegerOctets → Option IntegerOctets → Reading
link_id_reading i None = Rejected (Invoke i 2)
link_id_reading i (Some o) = Invoked i (ExplicitEctExecute (record { 0 = integer_of o }))

-- "Operation: .. object identifier 04 00 82 71 01 then 01 ExplicitEctExecute or 04 EctLinkIdRequest. Else invoke problem 1."
abbrev pub global_reading : IntegerOctets → List ℕ → List ℕ → Reading
global_reading i o rest =
    cond (same_octets o (ect_object 0x01)) (link_id_reading i (integer_in (first_element rest)))
    (cond (same_octets o (ect_object 0x04)) (Invoked i EctLinkIdRequest) (Rejected (Invoke i 1)))

-- "Second element neither 02 of length 1 or 2, nor 06 of length 1 or more: general problem 1 with the identifier."
abbrev pub object_reading : IntegerOctets → Option (List ℕ) → List ℕ → Reading
object_reading i None rest = Rejected (General i 1)
object_reading i (Some o) rest = global_reading i o rest

-- "Operation: local 6 EctExecute; .. Else invoke problem 1."
abbrev pub local_reading : IntegerOctets → IntegerOctets → Reading
local_reading i o = cond (same_integer (integer_of o) (pos 6)) (Invoked i EctExecute) (Rejected (Invoke i 1))

abbrev pub operation_reading : IntegerOctets → Option IntegerOctets → Element → Reading
operation_reading i None e = object_reading i (object_in e) (rest_of e)
operation_reading i (Some o) e = local_reading i o

-- what follows the invoke identifier
unfoldable pub identified_reading : IntegerOctets → List ℕ → Reading
identified_reading i rest = operation_reading i (integer_in (first_element rest)) (first_element rest)

-- "First element not 02 of length 1 or 2 (invoke identifier): general problem 1."
abbrev pub identifier_reading : Option IntegerOctets → List ℕ → Reading
identifier_reading None rest = Rejected (Null 1)
identifier_reading (Some i) rest = identified_reading i rest

-- the contents of an invoke
unfoldable pub invoke_reading : List ℕ → Reading
invoke_reading s = identifier_reading (integer_in (first_element s)) (rest_of (first_element s))

-- "Length octet absent or not exactly count minus 2, or contents not whole elements: general problem 2." "depth 5 is
-- bad structure"
abbrev pub framed_reading : List ℕ → Reading
framed_reading [] = Rejected (Null 2)
framed_reading (n ∷ s) = cond (eqb n (length s) && whole_elements 4 s) (invoke_reading s) (Rejected (Null 2))

-- "First octet A2, A3 or A4: accepted, nothing written. Other than A1 to A4: Reject, general problem 0."
-- A component of a Facility has an octet or more; no octets at all are read as another first octet.
unfoldable pub reading : List ℕ → Reading
reading [] = Rejected (Null 0)
reading (t ∷ s) = cond (leb 0xA2 t && leb t 0xA4) Ignored (cond (eqb t 0xA1) (framed_reading s) (Rejected (Null 0)))
