-- What the answers of the element readers say.
use Rattle.std.specs.Prelude.{ℕ, Bool, not, ◌||◌, cond, List, None, Option, Some}
use denote.Ref.{Bor}
use Rattle.octets.specs.declared.IntegerOctets.{IntegerOctets}
use Rattle.elements.specs.declared.FirstElement.{FirstElement}
use Rattle.elements.specs.Elements.{Element, Bad, Whole, constructed}

-- the element that an answer of the readers is
abbrev pub element_of : Option FirstElement → Element
element_of None = Bad
element_of (Some e) = Whole e.tag e.contents.now e.rest.now

-- the element, where its contents pass the test `inner` if they are elements
abbrev pub checked : (List ℕ → Bool) → Element → Element
checked inner Bad = Bad
checked inner (Whole tag contents rest) = cond (not (constructed tag) || inner contents) (Whole tag contents rest) Bad

-- the integer, and the octets after it
abbrev pub integer_read : Option (IntegerOctets × Bor (List ℕ)) → Option (IntegerOctets × List ℕ)
integer_read None = None
integer_read (Some (o, rest)) = Some (o, rest.now)

-- the octets of the object identifier, and those after it
abbrev pub object_read : Option (Bor (List ℕ) × Bor (List ℕ)) → Option (List ℕ × List ℕ)
object_read None = None
object_read (Some (o, rest)) = Some (o.now, rest.now)
