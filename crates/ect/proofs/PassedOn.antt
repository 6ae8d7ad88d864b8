-- A Leg facility, over the contract of `step` (document 02, slip 5): what every call with such an event returned, and what lies in its buffer.
use Prim.Native.Nat.{ℕ}
use mathlib.Core.Path.{◌≡◌}
use mathlib.Core.List.{List, ◌∷◌}
use lib.ListN.{length}
use Rattle.board.specs.declared.Board.{Board}
use Rattle.rules.specs.PassedOn.{PassedOn}
use Rattle.rules.proofs.PassedOn.{rules_pass_on}
use Rattle.ect.specs.CallHistory.{StepCall, number_returned, written}
use Rattle.ect.proofs.CallHistory.{StepContractMet, outcome, replies_are}

-- the call of `step` on the board b, with a Leg facility of any body
pub passed_on : (b : Board) (c : StepCall) (body : List ℕ) → c.event ≡ 7 ∷ body → StepContractMet b c →
    PassedOn b body (length c.before) (number_returned c) c.returned.board (written c)
passed_on b c body e h = rw ((outcome h).answer, (outcome h).board, replies_are (outcome h), e) (rules_pass_on b body (length c.before))
