-- What moving promises: its answer, and the target (document 02, slip 8).
use Rattle.std.specs.Prelude.{ℕ, ◌≡◌, List, [], length, Result, Ok, Err}
use Rattle.octets.specs.Buffers.{front_written}
use Rattle.events.specs.declared.Refusal.TheVariants as refusal
use Rattle.events.specs.Refusals.{refusal_number}
use Rattle.log_forms.specs.declared.Fault.{Fault}
use Rattle.log_forms.specs.declared.Fault.TheVariants.{Unreadable, NoOldForm}
use Rattle.log_forms.specs.declared.NotMoved.{NotMoved}
use Rattle.log_forms.specs.declared.NotMoved.TheVariants.{BadOptions, Bad, TargetTooSmall}

-- what a bad record is returned as: 3, 4 or 5 by the table of refusals, else 13
abbrev pub fault_number : Fault → ℕ
fault_number (Unreadable c) = refusal_number c
fault_number NoOldForm = 13

-- "5 for missing or bad option octets", "1 for a target too small"
abbrev pub not_moved_number : NotMoved → ℕ
not_moved_number BadOptions = refusal_number refusal.FieldOutOfRange
not_moved_number (Bad b) = fault_number b.fault
not_moved_number TargetTooSmall = refusal_number refusal.BufferTooSmall

-- the number that an answer stands for: 0, or the refusal's
abbrev pub answer_number : Result ℕ NotMoved → ℕ
answer_number (Ok n) = 0
answer_number (Err e) = not_moved_number e

-- the count of the octets written
abbrev pub answer_count : Result ℕ NotMoved → ℕ
answer_count (Ok n) = n
answer_count (Err e) = 0

-- the answer has that count
abbrev pub answer_of : Result (List ℕ) NotMoved → Result ℕ NotMoved
answer_of (Ok os) = Ok (length os)
answer_of (Err e) = Err e

-- a refusal writes none
abbrev pub written_of : Result (List ℕ) NotMoved → List ℕ
written_of (Ok os) = os
written_of (Err e) = []

-- the answer, and the target, which "keeps what lies beyond the octets written"
pub record Moves (outcome : Result (List ℕ) NotMoved) (before : List ℕ) (r : Result ℕ NotMoved) (after : List ℕ) : Type 0 where
  pub answer : r ≡ answer_of outcome
  pub target : after ≡ front_written (written_of outcome) before
