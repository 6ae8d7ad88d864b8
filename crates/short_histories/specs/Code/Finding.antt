-- What a walk along a list of sequences finds at a place. It only describes code.
use Rattle.std.specs.Prelude.{ℕ, zero, suc, List, [], ◌∷◌}

-- the sequence at a place, or how many places beyond the end of the list that place is
pub data FoundAt : Type 0 where
  At : (ns : List ℕ) → FoundAt
  Beyond : (left : ℕ) → FoundAt

unfoldable pub found_in : ℕ → List (List ℕ) → FoundAt
found_in p [] = Beyond p
found_in zero (ns ∷ l) = At ns
found_in (suc p) (ns ∷ l) = found_in p l

-- what is found, else what the list that follows has at the places left
abbrev pub or_in : FoundAt → List (List ℕ) → FoundAt
or_in (At ns) l = At ns
or_in (Beyond p) l = found_in p l

-- what is found where the list has each sequence behind one more number
abbrev pub under : ℕ → FoundAt → FoundAt
under n (At ns) = At (n ∷ ns)
under n (Beyond p) = Beyond p
