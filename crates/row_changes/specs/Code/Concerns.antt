-- The rows that a change may make another of; all others stay (proofs/Standings: `untouched`).
use Rattle.std.specs.Prelude.{Bool, ◌||◌, eqb}
use Rattle.board.specs.declared.Row.{Row}
use Rattle.board.specs.declared.Change.{Change}
use Rattle.board.specs.declared.Change.TheVariants.{SetState, SetAuxiliary, SetLinkId, Join, EndAlerting, Release}
use Rattle.board.specs.declared.Change.TheVariants.{ReleasePair}
use Rattle.board.specs.Lookup.{has_call_of}

abbrev pub concerns : Change → Row → Bool
concerns (SetState r s) row = has_call_of r.0 row
concerns (SetAuxiliary r a) row = has_call_of r.0 row
concerns (SetLinkId r l) row = has_call_of r.0 row
concerns (Join a b) row = eqb row.leg a || eqb row.leg b
concerns (EndAlerting l) row = eqb row.leg l
concerns (Release l) row = eqb row.leg l
concerns (ReleasePair l p) row = eqb row.leg l || eqb row.leg p
