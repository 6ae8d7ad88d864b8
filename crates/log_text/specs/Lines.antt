-- The lines that the program writes of a log (document 01, "Situations"), as ASCII.
use Rattle.std.specs.Prelude.{ℕ, zero, suc, ◌+◌, ◌/◌, ◌%◌, cond, List, [], ◌∷◌, ◌++◌, ltb}

abbrev pub space : ℕ
space = 32

abbrev pub line_feed : ℕ
line_feed = 10

-- a number below ten
abbrev pub digit : ℕ → ℕ
digit d = 48 + d

-- a number in decimal, its highest digit first, by at most f digits
unfoldable pub decimal_in : ℕ → ℕ → List ℕ
decimal_in zero n = []
decimal_in (suc f) n = cond (ltb n 10) (digit n ∷ []) (decimal_in f (n / 10) ++ (digit (n % 10) ∷ []))

-- "all else decimal": no zeros lead, and 0 is one digit. A number n has no more than n + 1 digits.
unfoldable pub decimal : ℕ → List ℕ
decimal n = decimal_in (suc n) n

-- "octets in lower-case hex": a number below sixteen
abbrev pub hex_digit : ℕ → ℕ
hex_digit d = cond (ltb d 10) (48 + d) (87 + d)

-- two digits an octet, the high one first
abbrev pub hex_octet : ℕ → List ℕ
hex_octet o = hex_digit (o / 16) ∷ hex_digit (o % 16) ∷ []

abbrev pub hex_octets : List ℕ → List ℕ
hex_octets [] = []
hex_octets (o ∷ os) = hex_octet o ++ hex_octets os

-- "`-` for none"
unfoldable pub octets_text : List ℕ → List ℕ
octets_text [] = 45 ∷ []
octets_text (o ∷ os) = hex_octets (o ∷ os)

-- a number and the space after it
abbrev pub spaced : ℕ → List ℕ
spaced n = decimal n ++ (space ∷ [])

-- "per record `number kind returned octets`"
abbrev pub record_line : ℕ → ℕ → ℕ → List ℕ → List ℕ
record_line number kind returned octets =
    spaced number ++ (spaced kind ++ (spaced returned ++ (octets_text octets ++ (line_feed ∷ []))))

-- "last, always, `end legs pairs links`"
abbrev pub end_line : ℕ → ℕ → ℕ → List ℕ
end_line legs pairs links =
    (101 ∷ 110 ∷ 100 ∷ space ∷ []) ++ (spaced legs ++ (spaced pairs ++ (decimal links ++ (line_feed ∷ []))))

-- "`ect 1`"
abbrev pub first_line : List ℕ
first_line = 101 ∷ 99 ∷ 116 ∷ space ∷ 49 ∷ line_feed ∷ []

-- "Bad or missing options: the line `bad options` alone"
abbrev pub bad_options_line : List ℕ
bad_options_line = 98 ∷ 97 ∷ 100 ∷ space ∷ 111 ∷ 112 ∷ 116 ∷ 105 ∷ 111 ∷ 110 ∷ 115 ∷ line_feed ∷ []
