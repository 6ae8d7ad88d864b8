-- What is claimed of writing an invoke and reading it, and of reading one and writing it (document 02, slips 1 and 4).
use Rattle.std.specs.Prelude.{ℕ, zero, suc, ◌≡◌, List, [], drop}
use Rattle.octets.specs.declared.IntegerOctets.{IntegerOctets}
use Rattle.octets.specs.declared.InvokeIdentifier.{InvokeIdentifier}
use Rattle.octets.specs.Numbers.{integer_of, InInt16Range}
use Rattle.component.specs.declared.Operation.{Operation}
use Rattle.component.specs.declared.Operation.TheVariants.{EctExecute, ExplicitEctExecute, EctLinkIdRequest}
use Rattle.component.specs.declared.Reading.{Reading}
use Rattle.component.specs.declared.Reading.TheVariants.{Invoked}
use Rattle.elements.specs.Elements.{first_element}
use Rattle.elements.specs.Values.{rest_of}

-- ---- written, then read

-- the LinkId of an operation, if it has one, is in the range of its type
abbrev pub OperationInRange : Operation → Type 0
OperationInRange EctExecute = Unit {0}
OperationInRange (ExplicitEctExecute l) = InInt16Range l.0
OperationInRange EctLinkIdRequest = Unit {0}

-- "yields the same operation and numbers": the LinkId as part of the operation, the identifier by its octets as received
pub record ReadAs (op : Operation) (i : InvokeIdentifier) (r : Reading) : Type 0 where
  pub received : IntegerOctets
  pub invoked : r ≡ Invoked received op
  pub identifier : integer_of received ≡ i.0

-- ---- read, then written

-- the contents of an invoke: what follows its tag and its length
abbrev pub contents : List ℕ → List ℕ
contents s = drop 2 s

-- how many elements are looked at: identifier, operation, and the LinkId where there is one
abbrev pub looked_at : Operation → ℕ
looked_at EctExecute = 2
looked_at (ExplicitEctExecute l) = 3
looked_at EctLinkIdRequest = 2

-- the octets behind the first n elements
abbrev pub behind : ℕ → List ℕ → List ℕ
behind zero s = s
behind (suc n) s = behind n (rest_of (first_element s))

-- "a read invoke that has .. no further elements"
abbrev pub NothingBehind : Operation → List ℕ → Type 0
NothingBehind op s = behind (looked_at op) (contents s) ≡ []
