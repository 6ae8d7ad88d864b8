-- What an EctInform invoke says (document 02, slip 6; ETS 300 369-1, 10.1.1).
use Rattle.std.specs.Prelude.{ℕ, Bool, ◌&&◌, cond, List, [], ◌∷◌, eqb, leb, length, None, Option, Some}
use Rattle.octets.specs.Lists.{all}
use Rattle.digits.specs.Digits.{is_digit}
use Rattle.elements.specs.Elements.{Element, Bad, Whole, first_element, no_octets}
use Rattle.component.specs.Arguments.{arguments_in}
use Rattle.private_transfers.specs.declared.Indication.{Indication}
use Rattle.private_transfers.specs.declared.Indication.TheVariants.{Alerting, Active}

-- ---- the number

-- the number of the other call's party: not sent, sent without its digits, or its digits
pub data Number : Type 0 where
  NotSent : Number
  Restricted : Number
  Given : (digits : List ℕ) → Number

-- "1 to 15 ASCII digits"
abbrev pub are_digits : List ℕ → Bool
are_digits ds = (leb 1 (length ds) && leb (length ds) 15) && all is_digit ds

-- what the A0 holds: "one 80 with 1 to 15 ASCII digits"
abbrev pub digits_in : Element → Option Number
digits_in Bad = None
digits_in (Whole tag contents rest) = cond (eqb tag 0x80 && (are_digits contents && no_octets rest)) (Some (Given contents)) None

-- "either 81 00 for restricted or A0 holding one 80 with 1 to 15 ASCII digits; nothing else follows"
abbrev pub number_element : Element → Option Number
number_element Bad = None
number_element (Whole tag contents rest) =
    cond (no_octets rest)
    (cond (eqb tag 0x81 && no_octets contents) (Some Restricted)
    (cond (eqb tag 0xA0) (digits_in (first_element contents)) None))
    None

-- "then perhaps one element"
abbrev pub number_in : List ℕ → Option Number
number_in [] = Some NotSent
number_in (x ∷ s) = number_element (first_element (x ∷ s))

-- ---- the argument

-- how the other call stands, and its party's number
pub record EctInform : Type 0 where
  pub indication : Indication
  pub number : Number

-- "0A 01 00 (alerting) or 0A 01 01 (active)": the octet of contents
abbrev pub indicated : ℕ → Option Indication
indicated o = cond (eqb o 0) (Some Alerting) (cond (eqb o 1) (Some Active) None)

-- an indication and a number, where both are right
abbrev pub inform_of : Option Indication → Option Number → Option EctInform
inform_of None n = None
inform_of (Some i) None = None
inform_of (Some i) (Some n) = Some (record { indication = i; number = n })

-- the contents of the 0A, one octet, and what follows it
abbrev pub inform_by : List ℕ → List ℕ → Option EctInform
inform_by [] rest = None
inform_by (o ∷ []) rest = inform_of (indicated o) (number_in rest)
inform_by (o ∷ p ∷ s) rest = None

-- what the 30 holds
abbrev pub inform_held : Element → Option EctInform
inform_held Bad = None
inform_held (Whole tag contents rest) = cond (eqb tag 0x0A) (inform_by contents rest) None

-- "The argument is 30 holding 0A 01 00 (alerting) or 0A 01 01 (active), then perhaps one element ..; nothing else follows."
abbrev pub inform_argument : Element → Option EctInform
inform_argument Bad = None
inform_argument (Whole tag contents rest) = cond (eqb tag 0x30 && no_octets rest) (inform_held (first_element contents)) None

abbrev pub inform_behind : Option (List ℕ) → Option EctInform
inform_behind None = None
inform_behind (Some rest) = inform_argument (first_element rest)

-- "an EctInform invoke (identifier ending 05 ..)"
unfoldable pub inform_in : List ℕ → Option EctInform
inform_in c = inform_behind (arguments_in 0x05 c)
