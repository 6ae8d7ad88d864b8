-- No two refusals have the same number, and none has 0. Assumes nothing.
use Prim.Native.Nat.{ℕ, ◌-◌, ◌<◌}
use native.Mathlib.Omega.{arith}
use mathlib.Core.Path.{◌≡◌, ◌∙◌, ap, refl, sym}
use mathlib.Core.List.{List, [], ◌∷◌}
use lib.ListN.{get_or}
use Rattle.events.specs.declared.Refusal.{Refusal}
use Rattle.events.specs.declared.Refusal.TheVariants.{BufferTooSmall, UnsoundBoard, WrongLength, UnknownKind, FieldOutOfRange}
use Rattle.events.specs.declared.Refusal.TheVariants.{LegOnBoard, ReferenceInUse, NoEmptyRow, NoSuchCall, NoSuchLeg, NotPermitted, NoSuchInvoke}
use Rattle.events.specs.Refusals.{refusal_number}

-- from 1 on
abbrev in_order : List Refusal
in_order =
    BufferTooSmall
    ∷ UnsoundBoard
    ∷ WrongLength
    ∷ UnknownKind
    ∷ FieldOutOfRange
    ∷ LegOnBoard
    ∷ ReferenceInUse
    ∷ NoEmptyRow
    ∷ NoSuchCall
    ∷ NoSuchLeg
    ∷ NotPermitted
    ∷ NoSuchInvoke
    ∷ []

abbrev refusal_of : ℕ → Refusal
refusal_of n = get_or in_order (n - 1) BufferTooSmall

own_number : (c : Refusal) → refusal_of (refusal_number c) ≡ c
own_number BufferTooSmall = refl
own_number UnsoundBoard = refl
own_number WrongLength = refl
own_number UnknownKind = refl
own_number FieldOutOfRange = refl
own_number LegOnBoard = refl
own_number ReferenceInUse = refl
own_number NoEmptyRow = refl
own_number NoSuchCall = refl
own_number NoSuchLeg = refl
own_number NotPermitted = refl
own_number NoSuchInvoke = refl

pub refusal_injective : (c d : Refusal) → refusal_number c ≡ refusal_number d → c ≡ d
refusal_injective c d e = sym (own_number c) ∙ ap refusal_of e ∙ own_number d

pub refusal_not_zero : (c : Refusal) → 0 < refusal_number c
refusal_not_zero BufferTooSmall = omega arith
refusal_not_zero UnsoundBoard = omega arith
refusal_not_zero WrongLength = omega arith
refusal_not_zero UnknownKind = omega arith
refusal_not_zero FieldOutOfRange = omega arith
refusal_not_zero LegOnBoard = omega arith
refusal_not_zero ReferenceInUse = omega arith
refusal_not_zero NoEmptyRow = omega arith
refusal_not_zero NoSuchCall = omega arith
refusal_not_zero NoSuchLeg = omega arith
refusal_not_zero NotPermitted = omega arith
refusal_not_zero NoSuchInvoke = omega arith
