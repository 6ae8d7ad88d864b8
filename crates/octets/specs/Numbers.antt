-- Numbers as octets, and LinkIds (document 01, "The board", "Event records", "Reading a component", "Serving it").
use Rattle.std.specs.Prelude.{ℕ, suc, ◌+◌, ◌-◌, ◌*◌, ◌/◌, ◌%◌, ◌≤◌, ◌<◌, Bool, false, ◌||◌, cond, List, [], ◌∷◌, ◌++◌}
use Rattle.std.specs.Prelude.{eqb, ltb, ℤ, pos, negsuc}
use Rattle.std.proofs.Math.IntN.{suc_ℤ}
use Rattle.octets.specs.declared.IntegerOctets.{IntegerOctets}
use Rattle.octets.specs.declared.IntegerOctets.TheVariants.{One, Two}

-- octets: numbers below 256, as their type u8 has it
abbrev pub AreOctets : List ℕ → Type 0
AreOctets [] = Unit {0}
AreOctets (o ∷ os) = (o < 256) × AreOctets os

-- "numbers high octet first": a number in two octets, and in four
abbrev pub two : ℕ → List ℕ
two n = n / 256 ∷ n % 256 ∷ []

abbrev pub four : ℕ → List ℕ
four n = two (n / 65536) ++ two (n % 65536)

-- the number that octets say, after the number that the octets before them say
abbrev pub number_after : ℕ → List ℕ → ℕ
number_after n [] = n
number_after n (o ∷ os) = number_after (n * 256 + o) os

abbrev pub number_of : List ℕ → ℕ
number_of os = number_after 0 os

-- sixteen bits as two's complement: below 32768 the number itself, else the number less 65536 (`negsuc k` is -(k + 1))
abbrev pub signed : ℕ → ℤ
signed n = cond (ltb n 32768) (pos n) (negsuc (65535 - n))

-- the sixteen bits of a number from -32768 to 32767, and back to it by `signed`
abbrev pub bits : ℤ → ℕ
bits (pos n) = n
bits (negsuc n) = 65535 - n

-- "Integers are two's complement of one or two octets"
abbrev pub integer_of : IntegerOctets → ℤ
integer_of (One a) = cond (ltb a 128) (pos a) (negsuc (255 - a))
integer_of (Two a b) = signed (a * 256 + b)

-- the first nine bits of two octets: the first octet, and the top bit of the second
abbrev pub first_nine : ℕ → ℕ → ℕ
first_nine a b = a * 2 + b / 128

-- "X.209 forbids a two-octet integer whose first nine bits are all equal" (document 02, slip 4): nine zeros, or nine ones
abbrev pub padded : IntegerOctets → Bool
padded (One a) = false
padded (Two a b) = eqb (first_nine a b) 0 || eqb (first_nine a b) 511

-- two integers are the same
abbrev pub same_integer : ℤ → ℤ → Bool
same_integer (pos m) (pos n) = eqb m n
same_integer (pos m) (negsuc n) = false
same_integer (negsuc m) (pos n) = false
same_integer (negsuc m) (negsuc n) = eqb m n

-- "LinkId in fewest octets": one from -128 to 127, else two
abbrev pub fewest : ℤ → IntegerOctets
fewest (pos n) = cond (ltb n 128) (One n) (Two (n / 256) (n % 256))
fewest (negsuc n) = cond (ltb n 128) (One (255 - n)) (Two ((65535 - n) / 256) ((65535 - n) % 256))

-- "a LinkId runs from -32768 to 32767", and so does an invoke identifier, as their type i16 has it (`negsuc n` is -(n + 1))
abbrev pub InInt16Range : ℤ → Type 0
InInt16Range (pos n) = n ≤ 32767
InInt16Range (negsuc n) = n ≤ 32767

-- "the value after": one more, "32767 followed by -32768"
abbrev pub next_link_id : ℤ → ℤ
next_link_id (pos n) = cond (eqb n 32767) (negsuc 32767) (pos (suc n))
next_link_id (negsuc n) = suc_ℤ (negsuc n)
