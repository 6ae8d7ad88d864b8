-- What `step` promises: the answer, the board and the buffer of the rules' outcome (demands 1 and 2).
use Rattle.std.specs.Prelude.{ℕ, ◌≡◌, Bool, List, length, Result, Ok, Err}
use Rattle.octets.specs.Buffers.{front_written}
use Rattle.board.specs.declared.Board.{Board}
use Rattle.events.specs.declared.Refusal.{Refusal}
use Rattle.events.specs.Refusals.{refusal_number}
use Rattle.rules.specs.Replies.{octets}
use Rattle.rules.specs.Step.{Outcome, step, step_tested}
use Rattle.ect.specs.declared.Stepped.{Stepped}

-- the number that an answer stands for: "Accepted events return 0", and the table of refusals
abbrev pub answer_number : Result ℕ Refusal → ℕ
answer_number (Ok n) = 0
answer_number (Err c) = refusal_number c

-- "and the number of octets written"; "with a refusal that number is 0"
abbrev pub answer_count : Result ℕ Refusal → ℕ
answer_count (Ok n) = n
answer_count (Err c) = 0

-- what the exchange program gets of an outcome: the answer, the board, and the buffer, which "keeps what lies beyond
-- the octets written"
pub record OutcomeOf (o : Outcome) (before : List ℕ) (r : Stepped) (after : List ℕ) : Type 0 where
  pub answer : answer_number r.answer ≡ o.returned
  pub count : answer_count r.answer ≡ length (octets o.replies)
  pub board : r.board ≡ o.board
  pub buffer : after ≡ front_written (octets o.replies) before

-- the outcome is that of the rules, with nothing left open: "exactly one octet string" (document 02, slip 3)
abbrev pub Steps : Board → List ℕ → List ℕ → Stepped → List ℕ → Type 0
Steps b event before r after = OutcomeOf (step b event (length before)) before r after

-- the same where the answer to the test of soundness is handed in
abbrev pub StepsTested : Bool → Board → List ℕ → List ℕ → Stepped → List ℕ → Type 0
StepsTested tested b event before r after = OutcomeOf (step_tested tested b event (length before)) before r after
