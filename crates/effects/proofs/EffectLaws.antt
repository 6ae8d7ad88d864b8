-- What an effect says of its decision, and what a request says of its record.
use Rattle.std.specs.Prelude.{None, Option, Result, Some}
use lib.Dec.{eqb, leb}
use lib.ListN.{length, drop}
use Prim.Native.Nat.{ℕ, ◌≤◌}
use mathlib.Core.Path.{◌≡◌, ◌∙◌, ap, refl}
use mathlib.Core.Bool.{◌&&◌}
use mathlib.Core.List.{List}
use Rattle.board.specs.declared.Board.{Board}
use Rattle.effects.specs.Code.Effects.{EffectOf, change_in, change_by, board_by}
use Rattle.effects.specs.declared.Effect.{Effect}
use Rattle.events.specs.declared.Refusal.{Refusal}
use borrow.Author.Tests.{leb-true}
use Rattle.board.specs.Soundness.{zeros}
use Rattle.octets.proofs.Lists.{left, right}
use Rattle.rules.proofs.Agreement.{request_in}
use Rattle.events.specs.EventRecords.{LegFacility, request, valid_component}
use Rattle.rules.specs.Checks as checks
use Rattle.rules.specs.Checks.{Refuse, Accept, accept, opening, Decision, change_of, assigned_by, service_decision, decide_open, decide_progress, may_progress, decide_hold, may_hold, decide_release, decide_answer, decide_alerting, decide_facility, decide_passing, decide_leg_facility, decide}
use Rattle.rules.specs.Step.{board_after, rows_after, candidate_after}

-- ---- what an effect says

-- the change of a decision makes the board of the decision
pub change_board : (c : Option checks.BoardChange) (b : Board) →
    board_by (change_in c) b ≡ record { rows = rows_after c b.rows; options = b.options; candidate = candidate_after c b.candidate }
unfolding rows_after candidate_after
change_board None b = refl
change_board (Some (checks.Enter p n)) b = refl
change_board (Some (checks.Apply c)) b = refl

-- the effect of a decision makes the board of the decision: the same board, where it is refused
pub board_is : {r : Result Effect Refusal} {b : Board} (d : Decision) → EffectOf r b d → board_by (change_by r) b ≡ board_after d b
unfolding board_after
board_is {b = b} (Refuse c) k = ap (λ (v : Result Effect Refusal). board_by (change_by v) b) k.is ∙ change_board None b
board_is {b = b} (Accept x w) k = ap (λ (v : Result Effect Refusal). board_by (change_by v) b) k.is ∙ change_board x b

-- the count of a Leg facility is in range
pub count_in_range : (os : List ℕ) {l n : ℕ} {c : List ℕ} → request os ≡ LegFacility l n c → n ≤ 64
count_in_range os {l} {n} {c} e =
    leb-true n 64
    (right (leb 1 n) (leb n 64)
    (left (leb 1 n && leb n 64) (zeros (drop n c))
    (right (eqb (length c) 64) (valid_component 64 n c) (rw e at (request_in os)))))
