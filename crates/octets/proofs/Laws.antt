-- Integers by cases on the sign: the fewest octets, and reading back what is written. Assumes nothing.
use Prim.Native.Nat.{ℕ, ◌+◌, ◌-◌, ◌*◌, ◌/◌, ◌%◌, ◌≤◌, ◌<◌}
use native.Mathlib.Omega.{arith}
use native.Mathlib.Decide.{ℕ_discrete, dec_lt}
use mathlib.Core.Path.{◌≡◌, sym, ap, ap₂, ◌∙◌}
use mathlib.Core.Bool.{true, false, ◌||◌}
use lib.Dec.{eqb}
use lib.IntN.{ℤ, pos, negsuc}
use lib.Signed.{mag}
use borrow.Author.Tests.{lt-ltb, le-ltb, eq-eqb, ne_eqb}
use Rattle.octets.specs.declared.IntegerOctets.TheVariants.{One, Two}
use Rattle.octets.specs.Numbers.{signed, bits, integer_of, first_nine, padded, fewest}

no_way : {A : Type 0} → false ≡ true → A
no_way e = absurd (let z : ◌≡◌ {A = ℕ} 0 1 = cc in omega arith)

-- ---- the fewest octets

pub fewest_two : (z : ℤ) → 128 ≤ bits z → bits z < 65408 → Two (bits z / 256) (bits z % 256) ≡ fewest z
fewest_two (pos n) h k = simp (le-ltb n 128 h)
fewest_two (negsuc n) h k =
    let e : 128 ≤ n = omega arith in
    simp (le-ltb n 128 e)

-- ---- reading back
joined : (n : ℕ) → n / 256 * 256 + n % 256 ≡ n
joined n = omega arith

read_pos : (n : ℕ) → n < 32768 → Dec (n < 128) → integer_of (fewest (pos n)) ≡ pos n
read_pos n f (yes h) = simp (lt-ltb n 128 h)
read_pos n f (no h) =
    let e : 128 ≤ n = omega arith in
    simp (le-ltb n 128 e, joined n, lt-ltb n 32768 f)

read_neg : (n : ℕ) → n < 32768 → Dec (n < 128) → integer_of (fewest (negsuc n)) ≡ negsuc n
read_neg n f (yes h) =
    let e : 128 ≤ 255 - n = omega arith in
    simp (lt-ltb n 128 h, le-ltb (255 - n) 128 e) (ap negsuc (omega arith))
read_neg n f (no h) =
    let e : 128 ≤ n = omega arith in
    let k : 32768 ≤ 65535 - n = omega arith in
    simp (le-ltb n 128 e, joined (65535 - n), le-ltb (65535 - n) 32768 k) (ap negsuc (omega arith))

-- what is written in the fewest octets is read back, from -32768 to 32767
pub integer_fewest : (z : ℤ) → mag z < 32768 → integer_of (fewest z) ≡ z
integer_fewest (pos n) f = read_pos n f (dec_lt n 128)
integer_fewest (negsuc n) f = read_neg n f (dec_lt n 128)

-- ---- the fewest octets and padding
unpadded : (a b : ℕ) → 0 < first_nine a b → first_nine a b < 511 → padded (Two a b) ≡ false
unpadded a b h k =
    let e : first_nine a b ≡ 0 → ⊥ = λ (q : first_nine a b ≡ 0). omega arith in
    let f : first_nine a b ≡ 511 → ⊥ = λ (q : first_nine a b ≡ 511). omega arith in
    simp (ne_eqb (first_nine a b) 0 e, ne_eqb (first_nine a b) 511 f)

fewest_pos : (n : ℕ) → n < 32768 → Dec (n < 128) → padded (fewest (pos n)) ≡ false
fewest_pos n f (yes h) = simp (lt-ltb n 128 h)
fewest_pos n f (no h) =
    let e : 128 ≤ n = omega arith in
    rw (le-ltb n 128 e) (unpadded (n / 256) (n % 256) (omega arith) (omega arith))

fewest_neg : (n : ℕ) → n < 32768 → Dec (n < 128) → padded (fewest (negsuc n)) ≡ false
fewest_neg n f (yes h) = simp (lt-ltb n 128 h)
fewest_neg n f (no h) =
    let e : 128 ≤ n = omega arith in
    rw (le-ltb n 128 e) (unpadded ((65535 - n) / 256) ((65535 - n) % 256) (omega arith) (omega arith))

-- what is written in the fewest octets is not padded, from -32768 to 32767
pub fewest_unpadded : (z : ℤ) → mag z < 32768 → padded (fewest z) ≡ false
fewest_unpadded (pos n) f = fewest_pos n f (dec_lt n 128)
fewest_unpadded (negsuc n) f = fewest_neg n f (dec_lt n 128)

-- one octet is the fewest that say its integer
pub one_fewest : (a : ℕ) → a < 256 → One a ≡ fewest (integer_of (One a))
one_fewest a f = go (dec_lt a 128)
  where
    go : Dec (a < 128) → One a ≡ fewest (integer_of (One a))
    go (yes h) = simp (lt-ltb a 128 h)
    go (no h) =
        let e : 128 ≤ a = omega arith in
        let k : 255 - a < 128 = omega arith in
        simp (le-ltb a 128 e, lt-ltb (255 - a) 128 k) (ap One (omega arith))

bits_signed : (n : ℕ) → n < 65536 → bits (signed n) ≡ n
bits_signed n f = go (dec_lt n 32768)
  where
    go : Dec (n < 32768) → bits (signed n) ≡ n
    go (yes h) = simp (lt-ltb n 32768 h)
    go (no h) =
        let e : 32768 ≤ n = omega arith in
        simp (le-ltb n 32768 e) (omega arith)

-- the first nine bits are neither nine zeros nor nine ones
neither : (n : ℕ) → n ≤ 511 → (eqb n 0 || eqb n 511) ≡ false → (0 < n) × (n < 511)
neither n f p = go (ℕ_discrete n 0) (ℕ_discrete n 511)
  where
    go : Dec (n ≡ 0) → Dec (n ≡ 511) → (0 < n) × (n < 511)
    go (yes e) d = no_way (sym p ∙ simp (eq-eqb n 0 e))
    go (no h) (yes e) = no_way (sym p ∙ simp (ne_eqb n 0 h, eq-eqb n 511 e))
    go (no h) (no k) = (omega arith, omega arith)

-- and so are two octets that are not padded
pub two_fewest : (a b : ℕ) → a < 256 → b < 256 → padded (Two a b) ≡ false → Two a b ≡ fewest (integer_of (Two a b))
two_fewest a b f g p =
    let h = neither (first_nine a b) (omega arith) p in
    let n = a * 256 + b in
    let e : bits (signed n) ≡ n = bits_signed n (omega arith) in
    let low : 128 ≤ bits (signed n) = rw e (omega (arith, h.0)) in
    let high : bits (signed n) < 65408 = rw e (omega (arith, h.1)) in
    let x : a ≡ bits (signed n) / 256 = rw e (omega arith) in
    let y : b ≡ bits (signed n) % 256 = rw e (omega arith) in
    ap₂ Two x y ∙ fewest_two (signed n) low high
