-- The numbers of refusals (document 01, "Event records": the table of what is returned).
use Rattle.std.specs.Prelude.{ℕ}
use Rattle.events.specs.declared.Refusal.{Refusal}
use Rattle.events.specs.declared.Refusal.TheVariants.{BufferTooSmall, UnsoundBoard, WrongLength, UnknownKind}
use Rattle.events.specs.declared.Refusal.TheVariants.{FieldOutOfRange}
use Rattle.events.specs.declared.Refusal.TheVariants.{LegOnBoard, ReferenceInUse, NoEmptyRow, NoSuchCall, NoSuchLeg}
use Rattle.events.specs.declared.Refusal.TheVariants.{NotPermitted, NoSuchInvoke}

-- "Returned", in the order of the checks
abbrev pub refusal_number : Refusal → ℕ
refusal_number BufferTooSmall = 1
refusal_number UnsoundBoard = 2
refusal_number WrongLength = 3
refusal_number UnknownKind = 4
refusal_number FieldOutOfRange = 5
refusal_number LegOnBoard = 6
refusal_number ReferenceInUse = 7
refusal_number NoEmptyRow = 8
refusal_number NoSuchCall = 9
refusal_number NoSuchLeg = 10
refusal_number NotPermitted = 11
-- "a new 12 for a component that isn't such an invoke" (document 02, slip 5)
refusal_number NoSuchInvoke = 12
