-- A log regrouped for the archive (document 02, slip 11): a log is two option octets and then records.
use Rattle.std.specs.Prelude.{ℕ, zero, suc, List, [], ◌∷◌, ◌++◌, map, flat_map, eqb, length, drop, get_or}
use Rattle.octets.specs.Lists.{filter}
use Rattle.octets.specs.Numbers.{four}
use Rattle.events.specs.Records.{body_length}

-- "for each kind in ascending number"
abbrev pub listed_kinds : List ℕ
listed_kinds = 1 ∷ 2 ∷ 3 ∷ 4 ∷ 5 ∷ 6 ∷ 7 ∷ 8 ∷ 9 ∷ []

-- "One octet of kind, then a body" (document 01)
abbrev pub kind_of : List ℕ → ℕ
kind_of r = get_or r 0 0

abbrev pub body_of : List ℕ → List ℕ
body_of r = drop 1 r

-- the bodies of a kind, in the order of the log
abbrev pub bodies_of : ℕ → List (List ℕ) → List (List ℕ)
bodies_of kind rs = map body_of (filter (λ (r : List ℕ). eqb (kind_of r) kind) rs)

-- "column by octet column": the octets that stand at one place of each body
abbrev pub column : ℕ → List (List ℕ) → List ℕ
column place bodies = map (λ (b : List ℕ). get_or b place 0) bodies

-- so many columns, from a place on
unfoldable pub columns : ℕ → ℕ → List (List ℕ) → List ℕ
columns place zero bodies = []
columns place (suc n) bodies = column place bodies ++ columns (suc place) n bodies

-- "for each kind in ascending number its bodies octet column by octet column"
unfoldable pub grouped_bodies : List (List ℕ) → List ℕ
grouped_bodies rs = flat_map (λ (kind : ℕ). columns 0 (body_length kind) (bodies_of kind rs)) listed_kinds

-- "the two option octets, the record count in four octets, high octet first, all kinds in order, then .."
unfoldable pub archive_of : List ℕ → List (List ℕ) → List ℕ
archive_of options rs = options ++ (four (length rs) ++ (map kind_of rs ++ grouped_bodies rs))
