-- What packing and unpacking promise: the answer, and the target (document 02, slip 11).
use Rattle.std.specs.Prelude.{ℕ, ◌≡◌, List, [], length, Result, Ok, Err}
use Rattle.octets.specs.Buffers.{front_written}
use Rattle.events.specs.declared.Refusal.TheVariants as refusal
use Rattle.events.specs.Refusals.{refusal_number}
use Rattle.log_archives.specs.declared.NotRegrouped.{NotRegrouped}
use Rattle.log_archives.specs.declared.NotRegrouped.TheVariants.{Unfit, CutShort, UnknownKind, BodiesDisagree, Bad, TargetTooSmall}

-- by the table of refusals: 5, 3, 4, 3, then 3, 4 or 5, and 1
abbrev pub not_regrouped_number : NotRegrouped → ℕ
not_regrouped_number Unfit = refusal_number refusal.FieldOutOfRange
not_regrouped_number CutShort = refusal_number refusal.WrongLength
not_regrouped_number (UnknownKind n) = refusal_number refusal.UnknownKind
not_regrouped_number BodiesDisagree = refusal_number refusal.WrongLength
not_regrouped_number (Bad b) = refusal_number b.refusal
not_regrouped_number TargetTooSmall = refusal_number refusal.BufferTooSmall

-- the number that an answer stands for: 0, or the refusal's
abbrev pub answer_number : Result ℕ NotRegrouped → ℕ
answer_number (Ok n) = 0
answer_number (Err e) = not_regrouped_number e

-- the count of the octets written
abbrev pub answer_count : Result ℕ NotRegrouped → ℕ
answer_count (Ok n) = n
answer_count (Err e) = 0

-- the answer has that count
abbrev pub answer_of : Result (List ℕ) NotRegrouped → Result ℕ NotRegrouped
answer_of (Ok os) = Ok (length os)
answer_of (Err e) = Err e

-- a refusal writes none
abbrev pub written_of : Result (List ℕ) NotRegrouped → List ℕ
written_of (Ok os) = os
written_of (Err e) = []

-- the answer, and the target, which "keeps what lies beyond the octets written"
pub record Regroups (outcome : Result (List ℕ) NotRegrouped) (before : List ℕ) (r : Result ℕ NotRegrouped) (after : List ℕ) : Type 0 where
  pub answer : r ≡ answer_of outcome
  pub target : after ≡ front_written (written_of outcome) before
