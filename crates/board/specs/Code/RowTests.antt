-- The tests of one row, and of two, that the soundness of rows comes to: each is a test of Soundness put to the
-- entries of rows. A row that is empty has none.
use Rattle.std.specs.Prelude.{ℕ, Bool, true, ◌&&◌, ◌||◌, not, eqb, Option}
use Rattle.octets.specs.Tests.{has, none_or, has_both}
use Rattle.board.specs.declared.Row.{Row}
use Rattle.board.specs.Entries.{Connection, WithUser, WithPartner, Entry, row_entry, occupied, linked, is_joined}
use Rattle.board.specs.Soundness.{valid_row, valid_entry, same_legs, same_references, same_link_ids, answers_to}

-- the fields of a row and of its entry
unfoldable pub fits : Row → Bool
fits r = valid_row r && none_or valid_entry (row_entry r)

-- two entries that share a leg, a reference or a LinkId
abbrev pub sharing : Entry → Entry → Bool
sharing e f = same_references e f || same_link_ids e f

abbrev pub clashing : Entry → Entry → Bool
clashing e f = same_legs e f || sharing e f

unfoldable pub clash : Row → Row → Bool
clash a b = has_both clashing (row_entry a) (row_entry b)

-- of leg n and its connection: o is its partner's row, or it needs none
abbrev pub partnered_by : ℕ → Connection → Option Entry → Bool
partnered_by n (WithUser c) o = true
partnered_by n (WithPartner p a) o = not (eqb n p) && has (answers_to n p a) o

unfoldable pub paired : Row → Row → Bool
paired a b = none_or (λ (e : Entry). partnered_by e.leg e.connection (row_entry b)) (row_entry a)

-- ---- what a row counts for

abbrev pub taken_row : Row → Bool
taken_row r = occupied r.standing

abbrev pub joined_row : Row → Bool
joined_row r = has (λ (e : Entry). is_joined e.connection) (row_entry r)

abbrev pub linked_row : Row → Bool
linked_row r = has linked (row_entry r)
