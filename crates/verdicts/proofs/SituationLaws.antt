-- The numbers of situations: each is below 32, and they are told by a call's two states and its direction alone.
use Rattle.std.proofs.lemmas.List.{get_or-map}
use Prim.Native.Nat.{ℕ, zero, suc, ◌+◌, ◌*◌, ◌<◌}
use native.Mathlib.Omega.{arith}
use native.Mathlib.Nat.{not-suc-le-zero, le_of_suc-le-suc}
use mathlib.Core.Path.{◌≡◌, ◌∙◌, refl, ap}
use mathlib.Core.List.{List, [], ◌∷◌, map, flat_map}
use lib.ListN.{length, get_or, get_or-append}
use lib.Seq.{get_or-append-add}
use Rattle.board.specs.declared.Direction.{Direction}
use Rattle.board.specs.declared.Direction.TheVariants.{Outgoing, Incoming}
use Rattle.board.specs.declared.CallState.{CallState}
use Rattle.board.specs.declared.CallState.TheVariants.{OutgoingCallProceeding, CallDelivered, CallReceived, Active}
use Rattle.board.specs.declared.AuxiliaryState.{AuxiliaryState}
use Rattle.board.specs.declared.AuxiliaryState.TheVariants.{Idle, HoldRequest, CallHeld, RetrieveRequest}
use Rattle.board.specs.declared.Call.{Call}
use Rattle.board.specs.States.{auxiliary_number, direction_number}
use Rattle.verdicts.specs.Situations.{state_place, situation, states, auxiliaries, directions, call_in, situations_in, situations}

pub place_below : (s : CallState) → state_place s < 4
place_below OutgoingCallProceeding = omega arith
place_below CallDelivered = omega arith
place_below CallReceived = omega arith
place_below Active = omega arith

pub auxiliary_below : (a : AuxiliaryState) → auxiliary_number a < 4
auxiliary_below Idle = omega arith
auxiliary_below HoldRequest = omega arith
auxiliary_below CallHeld = omega arith
auxiliary_below RetrieveRequest = omega arith

pub direction_below : (d : Direction) → direction_number d < 2
direction_below Outgoing = omega arith
direction_below Incoming = omega arith

pub situation_below : (c : Call) → situation c < 32
situation_below c = omega (arith, place_below c.state, auxiliary_below c.auxiliary, direction_below c.direction)

-- ---- lists of equal pieces, one after the other

module _ {A B : Type 0} (f : A → List B) (n : ℕ) (even : (x : A) → length (f x) ≡ n) where
  pub piece_at : (xs : List A) (i j : ℕ) (a : A) (b : B) → i < length xs → j < n → get_or (flat_map f xs) (n * i + j) b ≡ get_or (f (get_or xs i a)) j b
  unfolding flat_map
  piece_at [] i j a b h k = absurd (not-suc-le-zero h)
  piece_at (x ∷ xs) zero j a b h k =
      let e : n * 0 + j ≡ j = omega arith in
      ap (λ (m : ℕ). get_or (flat_map f (x ∷ xs)) m b) e ∙ get_or-append (f x) (flat_map f xs) b j (omega (arith, even x))
  piece_at (x ∷ xs) (suc i) j a b h k =
      let e : n * suc i + j ≡ length (f x) + (n * i + j) = omega (arith, even x) in
      ap (λ (m : ℕ). get_or (flat_map f (x ∷ xs)) m b) e
      ∙ get_or-append-add (f x) (flat_map f xs) (n * i + j) b
      ∙ piece_at xs i j a b (le_of_suc-le-suc h) k

-- ---- the call of a situation

state_at : (s : CallState) → get_or states (state_place s) OutgoingCallProceeding ≡ s
state_at OutgoingCallProceeding = refl
state_at CallDelivered = refl
state_at CallReceived = refl
state_at Active = refl

auxiliary_at : (a : AuxiliaryState) → get_or auxiliaries (auxiliary_number a) Idle ≡ a
auxiliary_at Idle = refl
auxiliary_at HoldRequest = refl
auxiliary_at CallHeld = refl
auxiliary_at RetrieveRequest = refl

direction_at : (d : Direction) → get_or directions (direction_number d) Outgoing ≡ d
direction_at Outgoing = refl
direction_at Incoming = refl

-- the call that stands for all those in the situation of c
abbrev pub plain : Call → Call
plain c = call_in c.state c.auxiliary c.direction

abbrev pub no_call : Call
no_call = call_in OutgoingCallProceeding Idle Outgoing

pub call_at : (c : Call) → get_or situations (situation c) no_call ≡ plain c
unfolding flat_map
call_at c =
    let s = state_place c.state in
    let a = auxiliary_number c.auxiliary in
    let d = direction_number c.direction in
    let e : situation c ≡ 8 * s + (2 * a + d) = omega arith in
    ap (λ (m : ℕ). get_or situations m no_call) e
    ∙ piece_at situations_in 8 (λ x. refl) states s (2 * a + d) OutgoingCallProceeding no_call (place_below c.state) (omega (arith, auxiliary_below c.auxiliary, direction_below c.direction))
    ∙ ap (λ (t : CallState). get_or (situations_in t) (2 * a + d) no_call) (state_at c.state)
    ∙ piece_at (λ (x : AuxiliaryState). map (call_in c.state x) directions) 2 (λ x. refl) auxiliaries a d Idle no_call (auxiliary_below c.auxiliary) (direction_below c.direction)
    ∙ ap (λ (t : AuxiliaryState). get_or (map (call_in c.state t) directions) d no_call) (auxiliary_at c.auxiliary)
    ∙ get_or-map (call_in c.state c.auxiliary) directions d Outgoing no_call (direction_below c.direction)
    ∙ ap (call_in c.state c.auxiliary) (direction_at c.direction)
