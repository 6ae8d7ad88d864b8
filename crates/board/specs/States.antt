-- Calls: their references, states and directions (document 01, "The board").
use Rattle.std.specs.Prelude.{ℕ, ◌%◌, Bool, true, false, ◌&&◌, ◌||◌, not, eqb, Option, [], ◌∷◌}
use Rattle.octets.specs.Lists.{find}
use Rattle.board.specs.declared.Direction.{Direction}
use Rattle.board.specs.declared.Direction.TheVariants.{Outgoing, Incoming}
use Rattle.board.specs.declared.CallState.{CallState}
use Rattle.board.specs.declared.CallState.TheVariants.{OutgoingCallProceeding, CallDelivered, CallReceived, Active}
use Rattle.board.specs.declared.AuxiliaryState.{AuxiliaryState}
use Rattle.board.specs.declared.AuxiliaryState.TheVariants.{Idle, HoldRequest, CallHeld, RetrieveRequest}
use Rattle.board.specs.declared.Call.{Call}

-- "3 Outgoing Call Proceeding, 4 Call Delivered, 7 Call Received, 10 Active"
abbrev pub state_number : CallState → ℕ
state_number OutgoingCallProceeding = 3
state_number CallDelivered = 4
state_number CallReceived = 7
state_number Active = 10

-- "Auxiliary: 0 Idle, 1 Hold Request, 2 Call Held, 3 Retrieve Request"
abbrev pub auxiliary_number : AuxiliaryState → ℕ
auxiliary_number Idle = 0
auxiliary_number HoldRequest = 1
auxiliary_number CallHeld = 2
auxiliary_number RetrieveRequest = 3

-- "direction 1 (0 outgoing, 1 incoming)"
abbrev pub direction_number : Direction → ℕ
direction_number Outgoing = 0
direction_number Incoming = 1

-- the auxiliary state and the direction with a number, where one has it
abbrev pub auxiliary_with : ℕ → Option AuxiliaryState
auxiliary_with n =
    find (λ (a : AuxiliaryState). eqb n (auxiliary_number a)) (Idle ∷ HoldRequest ∷ CallHeld ∷ RetrieveRequest ∷ [])

abbrev pub direction_with : ℕ → Option Direction
direction_with n = find (λ (d : Direction). eqb n (direction_number d)) (Outgoing ∷ Incoming ∷ [])

abbrev pub same_state : CallState → CallState → Bool
same_state s t = eqb (state_number s) (state_number t)

abbrev pub same_auxiliary : AuxiliaryState → AuxiliaryState → Bool
same_auxiliary a b = eqb (auxiliary_number a) (auxiliary_number b)

abbrev pub active : Call → Bool
active c = same_state c.state Active

abbrev pub delivered : Call → Bool
delivered c = same_state c.state CallDelivered

abbrev pub idle : Call → Bool
idle c = same_auxiliary c.auxiliary Idle

abbrev pub held : Call → Bool
held c = same_auxiliary c.auxiliary CallHeld

abbrev pub outgoing : Call → Bool
outgoing c = eqb (direction_number c.direction) 0

-- "a reference is unsigned, its low 15 bits not all zero"
abbrev pub valid_reference : ℕ → Bool
valid_reference n = not (eqb (n % 32768) 0)

-- "3 and 4 are only outgoing, 7 only incoming."
abbrev pub valid_direction : CallState → Direction → Bool
valid_direction OutgoingCallProceeding Outgoing = true
valid_direction OutgoingCallProceeding Incoming = false
valid_direction CallDelivered Outgoing = true
valid_direction CallDelivered Incoming = false
valid_direction CallReceived Outgoing = false
valid_direction CallReceived Incoming = true
valid_direction Active Outgoing = true
valid_direction Active Incoming = true

-- "other than 0 only in states 4 and 10"
abbrev pub holdable : CallState → Bool
holdable OutgoingCallProceeding = false
holdable CallDelivered = true
holdable CallReceived = false
holdable Active = true

abbrev pub valid_call : Call → Bool
valid_call c = valid_reference c.reference.0 && valid_direction c.state c.direction && (idle c || holdable c.state)
