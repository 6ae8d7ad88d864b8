-- What each row becomes by an accepted event (document 01, "Event records" and "Serving it").
use Rattle.std.specs.Prelude.{ℕ, Bool, true, false, ◌&&◌, ◌||◌, not, cond, List, [], ◌∷◌, map, eqb, Some}
use Rattle.octets.specs.declared.CallReference.{CallReference}
use Rattle.octets.specs.declared.LinkId.{LinkId}
use Rattle.octets.specs.Lists.{any}
use Rattle.board.specs.declared.CallState.{CallState}
use Rattle.board.specs.declared.AuxiliaryState.{AuxiliaryState}
use Rattle.board.specs.declared.Call.{Call}
use Rattle.board.specs.declared.Standing.{Standing}
use Rattle.board.specs.declared.Standing.TheVariants.{Empty, Served, Joined}
use Rattle.board.specs.declared.Row.{Row}
use Rattle.board.specs.declared.Board.{Board}
use Rattle.board.specs.declared.Change.{Change}
use Rattle.board.specs.declared.Change.TheVariants.{SetState, SetAuxiliary, SetLinkId, Join, EndAlerting, Release}
use Rattle.board.specs.declared.Change.TheVariants.{ReleasePair}
use Rattle.board.specs.States.{delivered}
use Rattle.board.specs.Entries.{occupied}
use Rattle.board.specs.Making.{empty_row}

-- ---- a call with one field changed: "Progress changes the call state alone, Hold the auxiliary state alone"

abbrev pub with_state : CallState → Call → Call
with_state s c = record { reference = c.reference; direction = c.direction; state = s; auxiliary = c.auxiliary; link = c.link }

abbrev pub with_auxiliary : AuxiliaryState → Call → Call
with_auxiliary a c = record { reference = c.reference; direction = c.direction; state = c.state; auxiliary = a; link = c.link }

abbrev pub with_link_id : LinkId → Call → Call
with_link_id l c = record { reference = c.reference; direction = c.direction; state = c.state; auxiliary = c.auxiliary; link = Some l }

-- ---- a row with its standing changed, by its leg and standing

abbrev pub map_standing : (ℕ → Standing → Standing) → Row → Row
map_standing f r = record { leg = r.leg; number = r.number; standing = f r.leg r.standing }

-- the call with that reference, changed
abbrev pub changed_call : CallReference → (Call → Call) → ℕ → Standing → Standing
changed_call r f n Empty = Empty
changed_call r f n (Served c) = Served (cond (eqb r.0 c.reference.0) (f c) c)
changed_call r f n (Joined p a) = Joined p a

-- a transfer joins two legs, each in place of its call: "References and LinkIds go; a Delivered leg alerts."
abbrev pub joined : ℕ → ℕ → ℕ → Standing → Standing
joined a b n Empty = Empty
joined a b n (Served c) = cond (eqb a n) (Joined b (delivered c)) (cond (eqb b n) (Joined a (delivered c)) (Served c))
joined a b n (Joined p x) = Joined p x

-- "Answer: a joined, alerting leg stops alerting."
abbrev pub alerting_ended : ℕ → ℕ → Standing → Standing
alerting_ended l n Empty = Empty
alerting_ended l n (Served c) = Served c
alerting_ended l n (Joined p x) = Joined p (x && not (eqb l n))

-- "Release empties the leg's row and, if joined, its partner's."
abbrev pub emptied_if : Bool → Row → Row
emptied_if b r = cond b empty_row r

unfoldable pub row_after : Change → Row → Row
row_after (SetState r s) row = map_standing (changed_call r (with_state s)) row
row_after (SetAuxiliary r a) row = map_standing (changed_call r (with_auxiliary a)) row
row_after (SetLinkId r l) row = map_standing (changed_call r (with_link_id l)) row
row_after (Join a b) row = map_standing (joined a b) row
row_after (EndAlerting l) row = map_standing (alerting_ended l) row
row_after (Release l) row = emptied_if (eqb row.leg l) row
row_after (ReleasePair l p) row = emptied_if (eqb row.leg l || eqb row.leg p) row

-- each row of the board
unfoldable pub changed_rows : Change → List Row → List Row
changed_rows c rows = map (row_after c) rows

-- ---- "Open takes the lowest empty row"

abbrev pub enter_at : Bool → Row → Row → List Row → List Row → List Row
enter_at true new r rs later = r ∷ later
enter_at false new r rs later = new ∷ rs

abbrev pub enter : Row → List Row → List Row
enter new [] = []
enter new (r ∷ rs) = enter_at (occupied r.standing) new r rs (enter new rs)

-- no row is empty
abbrev pub full : List Row → Bool
full rows = not (any (λ (r : Row). not (occupied r.standing)) rows)

-- a board with other rows
abbrev pub with_rows : List Row → Board → Board
with_rows rows b = record { rows = rows; options = b.options; candidate = b.candidate }
