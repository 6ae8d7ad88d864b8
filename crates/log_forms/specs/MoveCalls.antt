-- A log in its two parts, and a call that moves one, as the theorems over the contracts speak of them.
use Rattle.std.specs.Prelude.{ℕ, List, take, drop, Result}
use Rattle.log_forms.specs.declared.NotMoved.{NotMoved}
use Rattle.log_forms.specs.Contract.{answer_number, answer_count}

abbrev pub option_octets : List ℕ → List ℕ
option_octets log = take 2 log

-- the octets of its records
abbrev pub behind_options : List ℕ → List ℕ
behind_options log = drop 2 log

-- the log, the target as it was lent, what was returned, and the target as it lies there afterwards
pub record MoveCall : Type 0 where
  pub log : List ℕ
  pub before : List ℕ
  pub returned : Result ℕ NotMoved
  pub after : List ℕ

abbrev pub move_number : MoveCall → ℕ
move_number c = answer_number c.returned

-- the octets written, as they lie in the target
abbrev pub move_written : MoveCall → List ℕ
move_written c = take (answer_count c.returned) c.after
