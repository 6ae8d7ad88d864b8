-- An Inform, over the contract of `step` (document 02, slip 6): what every call with such an event returned, and what lies in its buffer.
use Prim.Native.Nat.{ℕ}
use mathlib.Core.Path.{◌≡◌}
use mathlib.Core.List.{List, ◌∷◌}
use lib.ListN.{length}
use Rattle.board.specs.declared.Board.{Board}
use Rattle.rules.specs.Informed.{Informed}
use Rattle.rules.proofs.Informed.{rules_inform}
use Rattle.ect.specs.CallHistory.{StepCall, number_returned, written}
use Rattle.ect.proofs.CallHistory.{StepContractMet, outcome, replies_are}

-- the call of `step` on the board b, with an Inform of any body
pub informed : (b : Board) (c : StepCall) (body : List ℕ) → c.event ≡ 8 ∷ body → StepContractMet b c →
    Informed b body (length c.before) (number_returned c) c.returned.board (written c)
informed b c body e h = rw ((outcome h).answer, (outcome h).board, replies_are (outcome h), e) (rules_inform b body (length c.before))
