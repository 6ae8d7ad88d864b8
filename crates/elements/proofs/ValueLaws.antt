-- Laws of integers of the required form. Assumes nothing.
use Rattle.std.specs.Prelude.{None, Option, Some}
use Prim.Native.Nat.{ℕ}
use native.Mathlib.Omega.{arith}
use mathlib.Core.Path.{◌≡◌, refl, sym, ap, ◌∙◌}
use mathlib.Core.Bool.{Bool, true, false, cond}
use Rattle.octets.specs.declared.IntegerOctets.{IntegerOctets}
use Rattle.octets.specs.Numbers.{padded}
use Rattle.elements.specs.Values.{unless_padded}

pub no_option : {A B : Type 0} {x : A} → None ≡ Some x → B
no_option e = absurd (let z : ◌≡◌ {A = ℕ} 0 1 = cc in omega arith)

-- an integer of the required form has those octets, and is not padded
pub unpadded_is : (x : Option IntegerOctets) (o : IntegerOctets) → unless_padded x ≡ Some o → (x ≡ Some o) × (padded o ≡ false)
unpadded_is None o q = no_option q
unpadded_is (Some v) o q = go (padded v) refl q
  where
    go : (b : Bool) → padded v ≡ b → cond b None (Some v) ≡ Some o → (Some v ≡ Some o) × (padded o ≡ false)
    go true p q = no_option q
    go false p q = let e : v ≡ o = cc in (q, sym (ap padded e) ∙ p)
