-- The count in four octets says the number that it was made of, and four octets are those of their number. Assumes nothing.
use Prim.Native.Nat.{ℕ, zero, suc, ◌+◌, ◌*◌, ◌/◌, ◌%◌, ◌<◌}
use native.Mathlib.Omega.{arith}
use mathlib.Core.Path.{◌≡◌, ap₂}
use mathlib.Core.List.{List, [], ◌∷◌, ◌++◌}
use lib.ListN.{length, take}
use Rattle.octets.specs.Numbers.{AreOctets, two, four, number_of}

pub number_of_four : (n : ℕ) → number_of (four n) ≡ n
number_of_four n = omega arith

two_are : (n a b : ℕ) → b < 256 → n ≡ a * 256 + b → two n ≡ a ∷ (b ∷ [])
two_are n a b h e =
    let x : n / 256 ≡ a = omega arith in
    let y : n % 256 ≡ b = omega arith in
    ap₂ (λ (i j : ℕ). i ∷ (j ∷ [])) x y

four_are : (n a b c d : ℕ) → b < 256 → c < 256 → d < 256 → n ≡ (a * 256 + b) * 65536 + (c * 256 + d) → four n ≡ a ∷ (b ∷ (c ∷ (d ∷ [])))
four_are n a b c d f g h e = ap₂ (λ (i j : List ℕ). i ++ j) (two_are (n / 65536) a b f (omega arith)) (two_are (n % 65536) c d h (omega arith))

pub four_of_number : (os : List ℕ) → AreOctets os → length os ≡ 4 → four (number_of os) ≡ os
four_of_number [] h e = absurd (omega arith)
four_of_number (a ∷ []) h e = absurd (omega arith)
four_of_number (a ∷ (b ∷ [])) h e = absurd (omega arith)
four_of_number (a ∷ (b ∷ (c ∷ []))) h e = absurd (omega arith)
four_of_number (a ∷ (b ∷ (c ∷ (d ∷ [])))) h e = four_are _ a b c d h.1.0 h.1.1.0 h.1.1.1.0 (omega arith)
four_of_number (a ∷ (b ∷ (c ∷ (d ∷ (o ∷ os))))) h e = absurd (omega arith)

-- the first of some octets are octets
pub first_octets : (n : ℕ) (os : List ℕ) → AreOctets os → AreOctets (take n os)
first_octets zero os h = tt
first_octets (suc n) [] h = tt
first_octets (suc n) (o ∷ os) h = (h.0, first_octets n os h.1)
