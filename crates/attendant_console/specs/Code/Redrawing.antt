-- Lines while the rows are looked through, and what they come to.
use Rattle.std.specs.Prelude.{cond, ◌&&◌, is_none, List, [], ◌∷◌, map, eqb, option_map, None, Option, Some}
use Rattle.octets.specs.Tests.{has, bind_option}
use Rattle.board.specs.declared.Row.{Row}
use Rattle.board.specs.Entries.{row_entry}
use Rattle.attendant_console.specs.declared.ShownLeg.{ShownLeg}
use Rattle.attendant_console.specs.declared.Sought.{Sought}
use Rattle.attendant_console.specs.Screen.{Line, shown_entry, shown_among}

-- what is sought for a line before the first row
abbrev pub sought_first : Line → Sought
sought_first l = record { leg = option_map (λ (s : ShownLeg). s.leg) l; found = None }

-- a row shows s
abbrev pub sought_by : ShownLeg → Sought → Sought
sought_by s t = cond (is_none t.found && has (eqb s.leg) t.leg) (record { leg = t.leg; found = Some s }) t

abbrev pub sought_in : Option ShownLeg → Sought → Sought
sought_in None t = t
sought_in (Some s) t = sought_by s t

-- what is found once all rows are looked through
unfoldable pub found_in : List Row → Sought → Line
found_in [] t = t.found
found_in (r ∷ rs) t = found_in rs (sought_in (option_map shown_entry (row_entry r)) t)

-- the lines as the rows have their legs
unfoldable pub redrawn_lines : List Row → List Line → List Line
redrawn_lines rows ls = map (λ (l : Line). bind_option (λ (s : ShownLeg). shown_among rows s.leg) l) ls
