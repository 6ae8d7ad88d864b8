-- The contents of an invoke, behind its tag, for the two functions that read them.
use Rattle.std.specs.Prelude.{ℕ, ◌&&◌, cond, List, [], ◌∷◌, eqb, length, None, Option, Some}
use Rattle.elements.specs.Elements.{whole_elements}

-- the octets that a length octet in front of them counts, where they are whole elements
abbrev pub framed_contents : List ℕ → Option (List ℕ)
framed_contents [] = None
framed_contents (n ∷ s) = cond (eqb n (length s) && whole_elements 4 s) (Some s) None
