-- A row whose call is changed by a closure.
use Rattle.std.specs.Prelude.{◌≡◌, true, false, eqb}
use Rattle.octets.specs.declared.CallReference.{CallReference}
use Rattle.board.specs.declared.Call.{Call}
use Rattle.board.specs.declared.Standing.{Standing}
use Rattle.board.specs.declared.Standing.TheVariants.{Served}
use Rattle.board.specs.declared.Row.{Row}
use Rattle.board.specs.Lookup.{has_call_of}

abbrev pub with_standing : Standing → Row → Row
with_standing s row = record { leg = row.leg; number = row.number; standing = s }

-- the row of the call with that reference has a call that the closure gives for it, and is else as it was
abbrev pub CallGiven : (Call → Call → Type 0) → CallReference → Row → Row → Type 0
CallGiven post r row after =
    (c : Call) → row.standing ≡ Served c → eqb r.0 c.reference.0 ≡ true
    → (d : Call) × post c d × (after ≡ with_standing (Served d) row)

-- any other row is as it was
abbrev pub OtherKept : CallReference → Row → Row → Type 0
OtherKept r row after = has_call_of r.0 row ≡ false → after ≡ row
