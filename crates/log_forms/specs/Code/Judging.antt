-- What judging a log gives.
use Rattle.std.specs.Prelude.{ℕ, ◌+◌, List, length, None, Option, Some, Result, Ok, Err}
use Rattle.log_forms.specs.declared.Form.{Form}
use Rattle.log_forms.specs.declared.BadRecord.{BadRecord}
use Rattle.log_forms.specs.declared.NotMoved.{NotMoved}
use Rattle.log_forms.specs.declared.NotMoved.TheVariants.{Bad}
use Rattle.log_forms.specs.Moving.{first_bad, moved_records}

abbrev pub bad_or : Option BadRecord → ℕ → Result ℕ NotMoved
bad_or None n = Ok n
bad_or (Some bad) n = Err (Bad bad)

-- the first bad one of some records, else how many octets they have when they are moved; with so many records and so
-- many octets before them
abbrev pub judged : Form → ℕ → ℕ → List (List ℕ) → Result ℕ NotMoved
judged form before octets rs = bad_or (first_bad form before rs) (octets + length (moved_records form rs))
