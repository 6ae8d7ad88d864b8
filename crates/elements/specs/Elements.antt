-- Elements (document 01, "Reading a component").
use Rattle.std.specs.Prelude.{ℕ, zero, suc, ◌/◌, ◌%◌, Bool, true, false, not, ◌&&◌, ◌||◌, cond, List, [], ◌∷◌, eqb}
use Rattle.std.specs.Prelude.{leb, ltb, length, take, drop}

-- the first element of some octets: its tag, its contents, and the octets after it
pub data Element : Type 0 where
  Bad : Element
  Whole : (tag : ℕ) (contents rest : List ℕ) → Element

-- "An element has one tag octet, low five bits not all ones, a length octet below 128, and that many octets."
abbrev pub valid_head : ℕ → ℕ → List ℕ → Bool
valid_head tag n rest = not (eqb (tag % 32) 31) && (ltb n 128 && leb n (length rest))

unfoldable pub first_element : List ℕ → Element
first_element [] = Bad
first_element (tag ∷ []) = Bad
first_element (tag ∷ n ∷ s) = cond (valid_head tag n s) (Whole tag (take n s) (drop n s)) Bad

-- "If bit 0x20 of the tag is set, its contents are again elements."
abbrev pub constructed : ℕ → Bool
constructed tag = eqb (tag / 32 % 2) 1

-- the contents pass the test `inner` where they are elements, and what follows passes the test `more`
abbrev pub well_formed : (List ℕ → Bool) → (List ℕ → Bool) → Element → Bool
well_formed inner more Bad = false
well_formed inner more (Whole tag contents rest) = (not (constructed tag) || inner contents) && more rest

abbrev pub no_octets : List ℕ → Bool
no_octets [] = true
no_octets (x ∷ s) = false

-- an element that nothing follows
abbrev pub only_element : Element → Element
only_element Bad = Bad
only_element (Whole tag contents rest) = cond (no_octets rest) (Whole tag contents rest) Bad

-- elements side by side up to the end, at most `count` of them
unfoldable pub siblings : (List ℕ → Bool) → ℕ → List ℕ → Bool
siblings inner zero s = no_octets s
siblings inner (suc count) [] = true
siblings inner (suc count) (x ∷ s) = well_formed inner (siblings inner count) (first_element (x ∷ s))

-- whole elements that nest at most `depth` deep, these counted; each takes an octet or more, so there are at most as
-- many as octets
unfoldable pub whole_elements : ℕ → List ℕ → Bool
whole_elements zero s = no_octets s
whole_elements (suc depth) s = siblings (whole_elements depth) (length s) s
