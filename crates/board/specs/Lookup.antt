-- Lookup by reference (document 01, "The board": the last paragraph).
use Rattle.std.specs.Prelude.{ℕ, Bool, false, List, eqb, None, Option, Some}
use Rattle.octets.specs.Lists.{place_from}
use Rattle.board.specs.declared.Standing.{Standing}
use Rattle.board.specs.declared.Standing.TheVariants.{Empty, Served, Joined}
use Rattle.board.specs.declared.Row.{Row}

-- "a call of that reference"
abbrev pub is_call_of : ℕ → Standing → Bool
is_call_of r Empty = false
is_call_of r (Served c) = eqb r c.reference.0
is_call_of r (Joined p a) = false

abbrev pub has_call_of : ℕ → Row → Bool
has_call_of r row = is_call_of r row.standing

-- what lookup gives: a number and a place
pub record LookupAnswer : Type 0 where
  pub returned : ℕ
  pub place : ℕ

-- "Lookup gives 0 and the lowest place, counted from 0, with a call of that reference, else 9 and place 0"
abbrev pub lowest_place : Option ℕ → LookupAnswer
lowest_place None = record { returned = 9; place = 0 }
lowest_place (Some i) = record { returned = 0; place = i }

unfoldable pub lookup : ℕ → List Row → LookupAnswer
lookup r rows = lowest_place (place_from (has_call_of r) 0 rows)

-- the number and the place that each case of the code's answer stands for
abbrev pub found_answer : Option ℕ → LookupAnswer
found_answer None = record { returned = 9; place = 0 }
found_answer (Some i) = record { returned = 0; place = i }
