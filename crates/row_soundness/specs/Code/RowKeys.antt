-- What rows are compared by. The rules are those of board/specs/Soundness; proofs/KeyLaws shows that rows compared by
-- these are compared as the rules say.
use Rattle.std.specs.Prelude.{ℕ, Bool, None, Option, Some, eqb}
use Rattle.std.specs.Ordering.{int_eq}
use Rattle.octets.specs.declared.CallReference.{CallReference}
use Rattle.octets.specs.declared.LinkId.{LinkId}
use Rattle.octets.specs.Tests.{bind_option, bit}
use Rattle.board.specs.declared.Connection.{Connection}
use Rattle.board.specs.declared.Connection.TheVariants.{WithUser, WithPartner}
use Rattle.board.specs.declared.Entry.{Entry}
use Rattle.board.specs.declared.Row.{Row}
use Rattle.board.specs.Entries.{row_entry}
use Rattle.board.specs.Soundness.{answers_to}
use Rattle.row_soundness.specs.declared.keys.JoinedLeg.{JoinedLeg}

-- ---- what an entry is compared by

abbrev pub leg_in : Entry → Option ℕ
leg_in e = Some e.leg

abbrev pub call_reference_of : Connection → Option CallReference
call_reference_of (WithUser c) = Some c.reference
call_reference_of (WithPartner p a) = None

abbrev pub reference_in : Entry → Option CallReference
reference_in e = call_reference_of e.connection

abbrev pub call_link_of : Connection → Option LinkId
call_link_of (WithUser c) = c.link
call_link_of (WithPartner p a) = None

abbrev pub link_in : Entry → Option LinkId
link_in e = call_link_of e.connection

abbrev pub joined_leg_of : ℕ → Connection → Option JoinedLeg
joined_leg_of n (WithUser c) = None
joined_leg_of n (WithPartner p a) = Some (record { leg = n; partner = p; alerting = bit a })

abbrev pub joined_in : Entry → Option JoinedLeg
joined_in e = joined_leg_of e.leg e.connection

-- the same of a row, which has no entry where it is empty
module _ {A : Type 0} where
  abbrev pub in_row : (Entry → Option A) → Row → Option A
  in_row f r = bind_option f (row_entry r)

-- ---- what is there in both, and the same

abbrev pub same_reference : CallReference → CallReference → Bool
same_reference r s = eqb r.0 s.0

abbrev pub same_link : LinkId → LinkId → Bool
same_link k l = int_eq k.0 l.0

-- ---- joined legs

abbrev pub joined_entry : JoinedLeg → Entry
joined_entry j = record { leg = j.leg; connection = WithPartner j.partner (eqb j.alerting 1) }

-- the leg b answers to a
abbrev pub answers_joined : JoinedLeg → JoinedLeg → Bool
answers_joined a b = answers_to a.leg a.partner (eqb a.alerting 1) (joined_entry b)
