-- What a row is found by: its call's reference, its leg, its call's LinkId, or that it is empty.
use Rattle.std.specs.Prelude.{ℕ, Bool, false, ◌&&◌, not, eqb, ℤ}
use Rattle.board.specs.declared.Standing.{Standing}
use Rattle.board.specs.declared.Standing.TheVariants.{Empty, Served, Joined}
use Rattle.board.specs.declared.Row.{Row}
use Rattle.board.specs.declared.finding.Key.{Key}
use Rattle.board.specs.declared.finding.Key.TheVariants as key
use Rattle.board.specs.Entries.{occupied, link_id_in, is_link_id}
use Rattle.board.specs.Lookup.{has_call_of}

-- a row that is not empty has that leg
abbrev pub has_row_leg : ℕ → Row → Bool
has_row_leg n row = occupied row.standing && eqb n row.leg

-- a call that has that LinkId
abbrev pub has_link_id_of : ℤ → Standing → Bool
has_link_id_of z Empty = false
has_link_id_of z (Served c) = is_link_id z (link_id_in c.link)
has_link_id_of z (Joined p a) = false

-- the row is empty
abbrev pub is_empty : Row → Bool
is_empty row = not (occupied row.standing)

abbrev pub matches_key : Key → Row → Bool
matches_key (key.Reference r) row = has_call_of r.0 row
matches_key (key.Leg n) row = has_row_leg n row
matches_key (key.LinkId l) row = has_link_id_of l.0 row.standing
matches_key key.Empty row = is_empty row
