-- Elements as integers and object identifiers (document 01, "Reading a component"; document 02, slip 4).
use Rattle.std.specs.Prelude.{ℕ, ◌&&◌, cond, List, [], ◌∷◌, eqb, leb, length, None, Option, Some}
use Rattle.octets.specs.declared.IntegerOctets.{IntegerOctets}
use Rattle.octets.specs.declared.IntegerOctets.TheVariants.{One, Two}
use Rattle.octets.specs.Numbers.{padded}
use Rattle.elements.specs.Elements.{Element, Bad, Whole}

-- one or two octets of contents
abbrev pub one_or_two : List ℕ → Option IntegerOctets
one_or_two [] = None
one_or_two (a ∷ []) = Some (One a)
one_or_two (a ∷ b ∷ []) = Some (Two a b)
one_or_two (a ∷ b ∷ c ∷ r) = None

-- "02 of length 1 or 2"; an element that is absent is not of the required form
abbrev pub integer_octets_in : Element → Option IntegerOctets
integer_octets_in Bad = None
integer_octets_in (Whole tag contents rest) = cond (eqb tag 2) (one_or_two contents) None

-- "a padded identifier or operation counts as not being of the required form, and a padded LinkId likewise" (document
-- 02, slip 4)
abbrev pub unless_padded : Option IntegerOctets → Option IntegerOctets
unless_padded None = None
unless_padded (Some o) = cond (padded o) None (Some o)

-- an integer of the required form
abbrev pub integer_in : Element → Option IntegerOctets
integer_in e = unless_padded (integer_octets_in e)

-- "06 of length 1 or more": the octets of an object identifier
abbrev pub object_in : Element → Option (List ℕ)
object_in Bad = None
object_in (Whole tag contents rest) = cond (eqb tag 6 && leb 1 (length contents)) (Some contents) None

-- the octets after the element
abbrev pub rest_of : Element → List ℕ
rest_of Bad = []
rest_of (Whole tag contents rest) = rest

-- what an element is read as, where it is, and the octets after it
abbrev pub with_rest : {A : Type 0} → Option A → Element → Option (A × List ℕ)
with_rest None e = None
with_rest (Some a) e = Some (a, rest_of e)
