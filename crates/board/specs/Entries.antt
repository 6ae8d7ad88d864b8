-- What the rows that are not empty say of the far parties (document 01, "The board").
-- The rules read the board through these entries, and the reference model, the book, keeps such entries of its own.
use Rattle.std.specs.Prelude.{ℕ, Bool, true, false, List, eqb, ℤ, length, None, Option, Some}
use Rattle.octets.specs.Lists.{filter, filter_map}
use Rattle.octets.specs.Numbers.{same_integer}
use Rattle.octets.specs.declared.LinkId.{LinkId}
use Rattle.board.specs.declared.Standing.{Standing}
use Rattle.board.specs.declared.Standing.TheVariants.{Empty, Served, Joined}
use Rattle.board.specs.declared.Row.{Row}
use Rattle.octets.specs.Tests.{bind_option}
-- "one standing: a call with the served user, .. or joined, carrying the partner's leg and whether this leg still alerts"
pub use Rattle.board.specs.declared.Connection.{Connection}
pub use Rattle.board.specs.declared.Connection.TheVariants.{WithUser, WithPartner}
pub use Rattle.board.specs.declared.Entry.{Entry}
pub use Rattle.board.specs.declared.Party.{Party}

abbrev pub entry : ℕ → Connection → Entry
entry l c = record { leg = l; connection = c }

-- ---- the rows taken, in their order, as entries

abbrev pub entry_of : ℕ → Standing → Option Entry
entry_of leg Empty = None
entry_of leg (Served c) = Some (record { leg = leg; connection = WithUser c })
entry_of leg (Joined p a) = Some (record { leg = leg; connection = WithPartner p a })

abbrev pub row_entry : Row → Option Entry
row_entry r = entry_of r.leg r.standing

abbrev pub taken : List Row → List Entry
taken rows = filter_map row_entry rows

-- the row is not empty
abbrev pub occupied : Standing → Bool
occupied Empty = false
occupied (Served c) = true
occupied (Joined p a) = true

-- ---- the calls with the served user

abbrev pub party_of : ℕ → Connection → Option Party
party_of leg (WithUser c) = Some (record { leg = leg; call = c })
party_of leg (WithPartner p a) = None

abbrev pub row_party : Row → Option Party
row_party r = bind_option (λ (e : Entry). party_of e.leg e.connection) (row_entry r)

abbrev pub calls : List Entry → List Party
calls es = filter_map (λ (e : Entry). party_of e.leg e.connection) es

-- ---- legs, references, LinkIds and partners

abbrev pub has_leg : ℕ → Entry → Bool
has_leg n e = eqb n e.leg

abbrev pub reference_of : Connection → Option ℕ
reference_of (WithUser c) = Some c.reference.0
reference_of (WithPartner p a) = None

abbrev pub is_number : ℕ → Option ℕ → Bool
is_number n None = false
is_number n (Some m) = eqb n m

abbrev pub has_reference : ℕ → Entry → Bool
has_reference n e = is_number n (reference_of e.connection)

abbrev pub link_id_in : Option LinkId → Option ℤ
link_id_in None = None
link_id_in (Some l) = Some l.0

abbrev pub link_id_of : Connection → Option ℤ
link_id_of (WithUser c) = link_id_in c.link
link_id_of (WithPartner p a) = None

abbrev pub is_link_id : ℤ → Option ℤ → Bool
is_link_id z None = false
is_link_id z (Some y) = same_integer z y

abbrev pub has_link_id : ℤ → Entry → Bool
has_link_id z e = is_link_id z (link_id_of e.connection)

abbrev pub has_party_reference : ℕ → Party → Bool
has_party_reference n p = eqb n p.call.reference.0

abbrev pub has_party_link_id : ℤ → Party → Bool
has_party_link_id z p = is_link_id z (link_id_in p.call.link)

abbrev pub present : Option ℤ → Bool
present None = false
present (Some z) = true

abbrev pub linked : Entry → Bool
linked e = present (link_id_of e.connection)

abbrev pub is_joined : Connection → Bool
is_joined (WithUser c) = false
is_joined (WithPartner p a) = true

-- n is the partner of a connection
abbrev pub is_partner : ℕ → Connection → Bool
is_partner n (WithUser c) = false
is_partner n (WithPartner p a) = eqb n p

-- the number of live LinkIds
abbrev pub link_ids : List Entry → ℕ
link_ids es = length (filter linked es)
