-- Call situations and their numbers (document 02, slip 2).
use Rattle.std.specs.Prelude.{ℕ, ◌+◌, ◌*◌, None}
use mathlib.Core.List.{List, [], ◌∷◌, map, flat_map}
use Rattle.board.specs.declared.Direction.{Direction}
use Rattle.board.specs.declared.Direction.TheVariants.{Outgoing, Incoming}
use Rattle.board.specs.declared.CallState.{CallState}
use Rattle.board.specs.declared.CallState.TheVariants.{OutgoingCallProceeding, CallDelivered, CallReceived, Active}
use Rattle.board.specs.declared.AuxiliaryState.{AuxiliaryState}
use Rattle.board.specs.declared.AuxiliaryState.TheVariants.{Idle, HoldRequest, CallHeld, RetrieveRequest}
use Rattle.board.specs.declared.Call.{Call}
use Rattle.board.specs.States.{auxiliary_number, direction_number}

-- "the state's place, from 0, among 3, 4, 7, 10"
abbrev pub state_place : CallState → ℕ
state_place OutgoingCallProceeding = 0
state_place CallDelivered = 1
state_place CallReceived = 2
state_place Active = 3

-- "8 times the state's place, from 0, among 3, 4, 7, 10, plus twice the auxiliary, plus the direction"
abbrev pub situation : Call → ℕ
situation c = 8 * state_place c.state + 2 * auxiliary_number c.auxiliary + direction_number c.direction

-- ---- a call in each situation, in the order of their numbers: theorem `in_order`

abbrev pub states : List CallState
states = OutgoingCallProceeding ∷ CallDelivered ∷ CallReceived ∷ Active ∷ []

abbrev pub auxiliaries : List AuxiliaryState
auxiliaries = Idle ∷ HoldRequest ∷ CallHeld ∷ RetrieveRequest ∷ []

abbrev pub directions : List Direction
directions = Outgoing ∷ Incoming ∷ []

-- a call of which nothing but the situation counts
abbrev pub call_in : CallState → AuxiliaryState → Direction → Call
call_in s a d = record { reference = record { 0 = 0 }; direction = d; state = s; auxiliary = a; link = None }

abbrev pub situations_in : CallState → List Call
situations_in s = flat_map (λ a. map (call_in s a) directions) auxiliaries

abbrev pub situations : List Call
situations = flat_map situations_in states
