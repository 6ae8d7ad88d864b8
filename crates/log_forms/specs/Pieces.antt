-- What is claimed of a long log that is moved by pieces, each of them records alone (document 02, slip 8).
use Rattle.std.specs.Prelude.{ℕ, ◌+◌, ◌≡◌, List, [], ◌∷◌, ◌++◌, length, None, Some}
use Rattle.events.specs.Records.{records}
use Rattle.log_forms.specs.declared.Form.{Form}
use Rattle.log_forms.specs.declared.BadRecord.{BadRecord}
use Rattle.log_forms.specs.Moving.{moved_records, first_bad}
use Rattle.log_forms.specs.MoveCalls.{MoveCall, move_number, move_written}

-- the records of the pieces, one behind the other
unfoldable pub records_of : List MoveCall → List (List ℕ)
records_of [] = []
records_of (c ∷ cs) = records c.log ++ records_of cs

-- what the calls wrote, one behind the other
unfoldable pub written_by : List MoveCall → List ℕ
written_by [] = []
written_by (c ∷ cs) = move_written c ++ written_by cs

-- each call returned 0
unfoldable pub AllMoved : List MoveCall → Type 0
AllMoved [] = Unit {0}
AllMoved (c ∷ cs) = (move_number c ≡ 0) × AllMoved cs

-- where each call returned 0, the log has no bad record, and what they wrote are its records in that form
pub record PiecesMoved (form : Form) (cs : List MoveCall) : Type 0 where
  pub faultless : first_bad form 0 (records_of cs) ≡ None
  pub written : written_by cs ≡ moved_records form (records_of cs)

-- a bad record by its number in a log that has so many records in front of the piece
abbrev pub numbered_on : ℕ → BadRecord → BadRecord
numbered_on n b = record { number = n + b.number; fault = b.fault }

-- where the calls in front each returned 0 and the next one the bad record b, that is the first bad one of the log, by its
-- number there, whatever follows
pub record PieceRefused (form : Form) (front : List MoveCall) (c : MoveCall) (b : BadRecord) : Type 0 where
  pub first : (later : List (List ℕ)) → first_bad form 0 (records_of front ++ (records c.log ++ later)) ≡ Some (numbered_on (length (records_of front)) b)
