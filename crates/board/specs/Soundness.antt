-- When a board is sound (document 01, "The board": the paragraph that defines the term).
use Rattle.std.specs.Prelude.{ℕ, Bool, true, false, ◌&&◌, not, List, eqb, leb, ℤ, length, take, drop, None, Option, Some}
use Rattle.octets.specs.Lists.{any, all, distinct}
pub use Rattle.digits.specs.Digits.{is_digit, zeros}
use Rattle.board.specs.declared.Standing.{Standing}
use Rattle.board.specs.declared.Standing.TheVariants.{Empty, Served, Joined}
use Rattle.board.specs.declared.PartyNumber.{PartyNumber}
use Rattle.board.specs.declared.Row.{Row}
use Rattle.board.specs.declared.Options.{Options}
use Rattle.board.specs.declared.Board.{Board}
use Rattle.board.specs.States.{valid_call}
use Rattle.board.specs.Entries.{Connection, WithUser, WithPartner, Entry, taken, has_leg, reference_of, is_number}
use Rattle.board.specs.Entries.{link_id_of, is_link_id, link_ids}
use Rattle.board.specs.LinkIds.{most_link_ids}

-- ---- "fields obey this section and the digit rules below"

-- "digit count 1 (0 to 15), 15 octets: that many ASCII digits, then zeros"
abbrev pub valid_digits : ℕ → List ℕ → Bool
valid_digits n ds = eqb (length ds) 15 && leb n 15 && all is_digit (take n ds) && zeros (drop n ds)

-- "presentation 1 (0 shown, 1 restricted)"; "a type of number (0 unknown, 1 international, 2 national)"
-- (document 02, slip 8), of a number without digits too
abbrev pub valid_number : PartyNumber → Bool
valid_number n = leb n.presentation 1 && leb n.type_of_number 2 && valid_digits n.count n.digits

-- "all else zero"
abbrev pub zero_number : PartyNumber → Bool
zero_number n = eqb n.presentation 0 && eqb n.type_of_number 0 && eqb n.count 0 && valid_digits 0 n.digits

-- "A row is empty (all else zero), or has a leg number .., its presentation, its digits, and one standing"
abbrev pub valid_standing : ℕ → PartyNumber → Standing → Bool
valid_standing leg n Empty = eqb leg 0 && zero_number n
valid_standing leg n (Served c) = valid_number n
valid_standing leg n (Joined q a) = valid_number n

unfoldable pub valid_row : Row → Bool
valid_row r = valid_standing r.leg r.number r.standing

abbrev pub valid_connection : Connection → Bool
valid_connection (WithUser c) = valid_call c
valid_connection (WithPartner p a) = true

abbrev pub valid_entry : Entry → Bool
valid_entry e = valid_connection e.connection

-- ---- "options are 0 or 1"; "2 for a board with one", a second option octet above 3 (document 02, slip 7); "a sound
-- ---- board may carry 0, 1 or 2" (slip 9)

abbrev pub valid_options : Options → Bool
valid_options o = leb o.subscribed 2 && leb o.alerting 3

-- ---- "legs are distinct, references are distinct, live LinkIds are distinct and at most 16"

abbrev pub same_legs : Entry → Entry → Bool
same_legs e f = has_leg e.leg f

abbrev pub same_numbers : Option ℕ → Option ℕ → Bool
same_numbers None o = false
same_numbers (Some n) o = is_number n o

abbrev pub same_references : Entry → Entry → Bool
same_references e f = same_numbers (reference_of e.connection) (reference_of f.connection)

abbrev pub same_link_ids_in : Option ℤ → Option ℤ → Bool
same_link_ids_in None o = false
same_link_ids_in (Some z) o = is_link_id z o

abbrev pub same_link_ids : Entry → Entry → Bool
same_link_ids e f = same_link_ids_in (link_id_of e.connection) (link_id_of f.connection)

-- ---- "each joined row's partner is another row joined to it, not both alerting"

-- joined to n, and not alerting where `alerting` says that n alerts
abbrev pub joined_back : ℕ → Bool → Connection → Bool
joined_back n alerting (WithUser c) = false
joined_back n alerting (WithPartner q a) = eqb n q && not (alerting && a)

-- f has the leg p and is joined back to n
abbrev pub answers_to : ℕ → ℕ → Bool → Entry → Bool
answers_to n p alerting f = eqb p f.leg && joined_back n alerting f.connection

abbrev pub valid_partner : List Entry → ℕ → Connection → Bool
valid_partner es n (WithUser c) = true
valid_partner es n (WithPartner p a) = not (eqb n p) && any (answers_to n p a) es

abbrev pub partnered : List Entry → Entry → Bool
partnered es e = valid_partner es e.leg e.connection

-- ---- the whole

unfoldable pub sound_entries : List Entry → Bool
sound_entries es =
    all valid_entry es
    && (distinct same_legs es
    && (distinct same_references es
    && (distinct same_link_ids es
    && (leb (link_ids es) most_link_ids
    && all (partnered es) es))))

unfoldable pub sound_rows : List Row → Bool
sound_rows rows = all valid_row rows && sound_entries (taken rows)

-- the term "sound"
unfoldable pub sound : Board → Bool
sound b = valid_options b.options && sound_rows b.rows
