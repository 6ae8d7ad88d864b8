-- The tests of buffer and board before the decision of an event.
use Rattle.std.specs.Prelude.{ℕ, Bool, cond, ltb, Result}
use Rattle.board.specs.declared.Board.{Board}
use Rattle.ect.specs.declared.Stepped.{Stepped}
use Rattle.events.specs.declared.Refusal.{Refusal}
use Rattle.events.specs.declared.Refusal.TheVariants.{BufferTooSmall, UnsoundBoard}
use Rattle.rules.specs.Checks.{Decision, Refuse}

-- the decision d, where the buffer has the room and the board was found sound
abbrev pub decision_tested : ℕ → Bool → Decision → Decision
decision_tested room tested d = cond (ltb room 128) (Refuse BufferTooSmall) (cond tested d (Refuse UnsoundBoard))

-- an answer, and the board after it
abbrev pub stepped : Result ℕ Refusal → Board → Stepped
stepped a b = record { answer = a; board = b }
