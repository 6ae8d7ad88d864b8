-- What is claimed of an Inform, whatever the octets of its body (document 02, slip 6).
use Rattle.std.specs.Prelude.{ℕ, ◌≡◌, ◌↔◌, not, ◌&&◌, List, [], ◌∷◌, ◌++◌, T, take, drop, get_or, replicate, None, Some}
use Rattle.octets.specs.Lists.{any}
use Rattle.octets.specs.Numbers.{four}
use Rattle.private_transfers.specs.declared.Indication.TheVariants.{Alerting, Active}
use Rattle.private_transfers.specs.EctInform.{EctInform, inform_in}
use Rattle.board.specs.declared.Board.{Board}
use Rattle.board.specs.declared.Call.{Call}
use Rattle.board.specs.declared.Connection.TheVariants.{WithUser}
use Rattle.board.specs.Entries.{taken, has_reference}
use Rattle.board.specs.States.{active, valid_reference}
use Rattle.events.specs.EventRecords.{field, valid_component}
use Rattle.rules.specs.Replies.{TellNumber, number_as_received}
use Rattle.rules.specs.History.{HasRow}
use Rattle.rules.specs.SingleEvents.{Checked}

-- "reference 2, count 1 of 1 to 64, component, zeros"
abbrev pub reference_in : List ℕ → ℕ
reference_in body = field 0 2 body

abbrev pub count_in : List ℕ → ℕ
count_in body = get_or body 2 0

abbrev pub component_in : List ℕ → List ℕ
component_in body = take (count_in body) (drop 3 body)

-- checks 1 to 5 are passed; the kind is listed
abbrev pub Judged : Board → List ℕ → ℕ → Type 0
Judged b body room =
    Checked b room body 67 (valid_component 64 (count_in body) (drop 3 body) && valid_reference (reference_in body))

-- "that call": the far party at the leg has it, and it has the event's reference
pub record Names (b : Board) (body : List ℕ) (leg : ℕ) (c : Call) : Type 0 where
  pub with_user : HasRow b leg (WithUser c)
  pub reference : c.reference.0 ≡ reference_in body

-- the call is Active, its far party is at this leg, and the component is an EctInform invoke that says i
pub record Informable (b : Board) (body : List ℕ) (leg : ℕ) (i : EctInform) : Type 0 where
  pub call : Call
  pub names : Names b body leg call
  pub is_active : T (active call)
  pub invoke : inform_in (component_in body) ≡ Some i

-- "NOTIFY, E9, request 0", mark 0, no digits
abbrev pub alerting_tell : ℕ → List ℕ
alerting_tell leg = 0x82 ∷ (four leg ++ (1 ∷ 0xE9 ∷ 0 ∷ 0 ∷ 0 ∷ replicate 15 0))

-- "FACILITY, EA, request 1", with a number
abbrev pub active_tell : ℕ → TellNumber → List ℕ
active_tell leg n = 0x82 ∷ (four leg ++ (0 ∷ 0xEA ∷ n.mark ∷ 1 ∷ n.count ∷ n.digits))

-- of the number returned, the board afterwards and the octets written
pub record Informed (b : Board) (body : List ℕ) (room returned : ℕ) (after : Board) (octets : List ℕ) : Type 0 where
  -- accepted exactly when the checks are passed
  pub accepted : (returned ≡ 0) ↔ (Judged b body room × ((l : ℕ) × ((i : EctInform) × Informable b body l i)))
  -- "The far party of that call gets one Tell: NOTIFY, E9, request 0 for alerting"; "for alerting that element, in
  -- either form, is ignored and the mark is 0"
  pub told_alerting : (l : ℕ) (i : EctInform) → Judged b body room → Informable b body l i → i.indication ≡ Alerting →
      octets ≡ alerting_tell l
  -- "FACILITY, EA, request 1 for active. The number is as received, whether or not the row's own party is restricted"
  pub told_active : (l : ℕ) (i : EctInform) → Judged b body room → Informable b body l i → i.indication ≡ Active →
      octets ≡ active_tell l (number_as_received i.number)
  -- "Checks: 9 for no such call, then 11 if the call isn't Active, then 12 for a component that isn't such an
  -- invoke"
  pub no_such_call : Judged b body room → T (not (any (has_reference (reference_in body)) (taken b.rows))) → returned ≡ 9
  pub not_active : Judged b body room → (l : ℕ) (c : Call) → Names b body l c → T (not (active c)) → returned ≡ 11
  pub no_such_invoke : Judged b body room → (l : ℕ) (c : Call) → Names b body l c → T (active c) →
      inform_in (component_in body) ≡ None → returned ≡ 12
  -- with a refusal nothing is written
  pub refused : (returned ≡ 0 → ⊥) → octets ≡ []
  -- "No row changes", accepted or refused
  pub board_stays : after ≡ b
