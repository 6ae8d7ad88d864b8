-- A redirection number that is given has 1 to 15 digits, by definition and as the reader lends it. Assumes nothing.
use Prim.{tt}
use Rattle.std.specs.Prelude.{None, Option, Some, IfSome, ⊤}
use Prim.Native.Nat.{ℕ, ◌≤◌, zero-le}
use mathlib.Core.Path.{◌≡◌, refl, sym}
use mathlib.Core.Bool.{Bool, true, false, ◌&&◌, cond}
use mathlib.Core.List.{List, [], ◌∷◌}
use lib.Dec.{eqb, leb}
use lib.ListN.{length}
use borrow.Author.Tests.{leb-true}
use Rattle.octets.specs.Lists.{all}
use Rattle.digits.specs.Digits.{is_digit}
use Rattle.elements.specs.Elements.{Element, Bad, Whole, first_element, no_octets}
use Rattle.component.specs.Arguments.{arguments_in}
use Rattle.private_transfers.specs.declared.EctInform.{EctInform as Said}
use Rattle.private_transfers.specs.declared.Indication.{Indication}
use Rattle.private_transfers.specs.declared.RedirectionNumber.{RedirectionNumber}
use Rattle.private_transfers.specs.declared.RedirectionNumber.TheVariants as redirection
use Rattle.private_transfers.specs.Code.Readers.{number_said, inform_read, digit_count}
use Rattle.private_transfers.specs.EctInform.{Number, NotSent, Restricted, Given, EctInform, are_digits, digits_in, number_element, number_in, indicated, inform_of, inform_by, inform_held, inform_argument, inform_behind, inform_in}

-- a number's digits, where it is given: so many, and each a digit
abbrev pub IsLong : Number → Type 0
IsLong NotSent = ⊤
IsLong Restricted = ⊤
IsLong (Given ds) = (1 ≤ length ds) × (length ds ≤ 15) × (all is_digit ds ≡ true)

either_number : (b : Bool) (x y : Option Number) → IfSome x IsLong → IfSome y IsLong → IfSome (cond b x y) IsLong
either_number true x y p q = p
either_number false x y p q = q

abbrev Long : Option EctInform → Type 0
Long o = IfSome o (λ (i : EctInform). IsLong i.number)

either : (b : Bool) (x y : Option EctInform) → Long x → Long y → Long (cond b x y)
either true x y p q = p
either false x y p q = q

digits_long : (e : Element) → IfSome (digits_in e) IsLong
digits_long Bad = tt
digits_long (Whole tag contents rest) = tagged (eqb tag 0x80)
  where
    many : (a b d f : Bool) → leb 1 (length contents) ≡ a → leb (length contents) 15 ≡ b → all is_digit contents ≡ d → IfSome (cond (((a && b) && d) && f) (Some (Given contents)) None) IsLong
    many true true true true p q r = (leb-true 1 (length contents) p, leb-true (length contents) 15 q, r)
    many true true true false p q r = tt
    many true true false f p q r = tt
    many true false d f p q r = tt
    many false b d f p q r = tt

    tagged : (b : Bool) → IfSome (cond (b && (are_digits contents && no_octets rest)) (Some (Given contents)) None) IsLong
    tagged true = many (leb 1 (length contents)) (leb (length contents) 15) (all is_digit contents) (no_octets rest) refl refl refl
    tagged false = tt

element_long : (e : Element) → IfSome (number_element e) IsLong
element_long Bad = tt
element_long (Whole tag contents rest) =
    either_number (no_octets rest) _ _
    (either_number (eqb tag 0x81 && no_octets contents) _ _ tt
    (either_number (eqb tag 0xA0) _ _ (digits_long (first_element contents)) tt))
    tt

number_in_long : (s : List ℕ) → IfSome (number_in s) IsLong
number_in_long [] = tt
number_in_long (x ∷ s) = element_long (first_element (x ∷ s))

of_long : (i : Option Indication) (o : Option Number) → IfSome o IsLong → Long (inform_of i o)
of_long None o h = tt
of_long (Some i) None h = tt
of_long (Some i) (Some n) h = h

by_long : (s rest : List ℕ) → Long (inform_by s rest)
by_long [] rest = tt
by_long (o ∷ []) rest = of_long (indicated o) (number_in rest) (number_in_long rest)
by_long (o ∷ p ∷ s) rest = tt

held_long : (e : Element) → Long (inform_held e)
held_long Bad = tt
held_long (Whole tag contents rest) = either (eqb tag 0x0A) _ _ (by_long contents rest) tt

argument_long : (e : Element) → Long (inform_argument e)
argument_long Bad = tt
argument_long (Whole tag contents rest) = either (eqb tag 0x30 && no_octets rest) _ _ (held_long (first_element contents)) tt

behind_long : (o : Option (List ℕ)) → Long (inform_behind o)
behind_long None = tt
behind_long (Some rest) = argument_long (first_element rest)

pub number_long : (c : List ℕ) → IfSome (inform_in c) (λ (i : EctInform). IsLong i.number)
unfolding inform_in
number_long c = behind_long (arguments_in 0x05 c)

-- what the reader lends has 15 digits at most
pub few_digits : (c : List ℕ) (i : Said) → inform_read (Some i) ≡ inform_in c → digit_count i.number ≤ 15
few_digits c i h = of_number i.number (rw (sym h) at (number_long c))
  where
    of_number : (n : RedirectionNumber) → IsLong (number_said n) → digit_count n ≤ 15
    of_number redirection.NotSent l = zero-le
    of_number redirection.Restricted l = zero-le
    of_number (redirection.Given digits) l = l.1
