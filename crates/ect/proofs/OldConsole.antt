-- A console of the old kind, over the contract of `step` (document 02, slip 8): what it meets in the octets that every call left in its buffer.
use Rattle.board.specs.declared.Board.{Board}
use lib.ListN.{length}
use Rattle.rules.specs.History.{stepped}
use Rattle.rules.specs.OldConsole.{OldConsole}
use Rattle.rules.proofs.OldConsole.{rules_old_console}
use Rattle.ect.specs.CallHistory.{StepCall, event_of, written}
use Rattle.ect.proofs.CallHistory.{StepContractMet, outcome, replies_are}

-- the call of `step` on the board b
pub old_console : (b : Board) (c : StepCall) → StepContractMet b c → OldConsole b c.event (stepped b (event_of c)).replies (written c)
old_console b c h = rw (replies_are (outcome h)) (rules_old_console b c.event (length c.before))
