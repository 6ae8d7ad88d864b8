-- Calls of packing and unpacking, and what is claimed of them (document 02, slip 11).
use Rattle.std.specs.Prelude.{ℕ, ◌≡◌, List, ◌++◌, take, drop, Result, IsPermutation}
use Rattle.log_archives.specs.declared.NotRegrouped.{NotRegrouped}
use Rattle.log_archives.specs.Contract.{answer_number, answer_count}

-- the octets given, the target as it was lent, what was returned, and the target as it lies there afterwards
pub record RegroupCall : Type 0 where
  pub given : List ℕ
  pub before : List ℕ
  pub returned : Result ℕ NotRegrouped
  pub after : List ℕ

abbrev pub regroup_number : RegroupCall → ℕ
regroup_number c = answer_number c.returned

-- the octets written, as they lie in the target
abbrev pub regroup_written : RegroupCall → List ℕ
regroup_written c = take (answer_count c.returned) c.after

-- of a call, and of one the other way that was given what the first wrote: "Undoing it gives the log back, and rearranging
-- an undone archive gives the archive"
pub record GivesBack (there back : RegroupCall) : Type 0 where
  pub returned : regroup_number back ≡ 0
  pub same : regroup_written back ≡ there.given

-- "Every octet of the log is kept, only moved": what was written, without the four octets of the count
abbrev pub OctetsKept : RegroupCall → Type 0
OctetsKept c = IsPermutation c.given (take 2 (regroup_written c) ++ drop 6 (regroup_written c))
