-- What judging records gives.
use Rattle.std.specs.Prelude.{ℕ, ◌+◌, List, length, None, Option, Some, Result, Ok, Err}
use Rattle.log_archives.specs.declared.BadRecord.{BadRecord}
use Rattle.log_archives.specs.declared.NotRegrouped.{NotRegrouped}
use Rattle.log_archives.specs.declared.NotRegrouped.TheVariants.{Bad}
use Rattle.log_archives.specs.Judging.{first_bad}

abbrev pub bad_or : Option BadRecord → ℕ → Result ℕ NotRegrouped
bad_or None n = Ok n
bad_or (Some bad) n = Err (Bad bad)

-- the first bad one of some records, else how many they are; with so many records before them
abbrev pub judged : ℕ → List (List ℕ) → Result ℕ NotRegrouped
judged before rs = bad_or (first_bad before rs) (before + length rs)
