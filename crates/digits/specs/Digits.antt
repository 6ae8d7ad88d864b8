-- Digits as octets (document 01, "Event records", "Reply records").
use Rattle.std.specs.Prelude.{ℕ, Bool, ◌&&◌, List, ◌++◌, eqb, leb, take, replicate}
use Rattle.octets.specs.Lists.{all}

-- "ASCII digits"
abbrev pub is_digit : ℕ → Bool
is_digit o = leb 48 o && leb o 57

-- "15 octets: that many ASCII digits, then zeros"
abbrev pub in_fifteen : List ℕ → List ℕ
in_fifteen ds = take 15 (ds ++ replicate 15 0)

abbrev pub zeros : List ℕ → Bool
zeros os = all (λ (o : ℕ). eqb o 0) os
