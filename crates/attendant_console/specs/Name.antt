-- The name of a far party (document 02, slip 12).
use Rattle.std.specs.Prelude.{ℕ, Bool, List, [], ◌∷◌, eqb}
use Rattle.std.specs.List.{before_first}

abbrev pub is_comma : ℕ → Bool
is_comma c = eqb c 0x2c

-- "or the digits if that part is empty"
abbrev pub part_or : List ℕ → List ℕ → List ℕ
part_or [] digits = digits
part_or (c ∷ cs) digits = c ∷ cs

-- "a part of one of the two: the directory line before its first comma (all of it if it has none), or the digits"
unfoldable pub name : List ℕ → List ℕ → List ℕ
name line digits = part_or (before_first is_comma line) digits
