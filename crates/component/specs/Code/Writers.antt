-- The front of an answer, for the writers of answers.
use Rattle.std.specs.Prelude.{ℕ, ◌+◌, List, ◌∷◌, length}
use Rattle.octets.specs.declared.IntegerOctets.{IntegerOctets}
use Rattle.component.specs.Answers.{integer}

-- the tag, the length, and the identifier, where n octets follow it
abbrev pub identified : ℕ → IntegerOctets → ℕ → List ℕ
identified tag i n = tag ∷ (length (integer i) + n) ∷ integer i
