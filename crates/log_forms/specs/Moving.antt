-- Stored logs moved from one form to the other (document 02, slip 8): a log is two option octets and then records.
use Rattle.std.specs.Prelude.{ℕ, ◌+◌, cond, List, [], ◌∷◌, ◌++◌, eqb, leb, length, take, drop, get_or, None, Option, Some}
use Rattle.std.specs.Prelude.{Result, Ok, Err}
use Rattle.board.specs.declared.PartyNumber.{PartyNumber}
use Rattle.board.specs.Making.{ForOldLog, options, takes}
use Rattle.events.specs.EventRecords.{Request, request, Malformed, Open, Progress, Hold, Release, Facility, Answer}
use Rattle.events.specs.EventRecords.{LegFacility, Inform}
use Rattle.events.specs.Records.{records}
use Rattle.log_forms.specs.declared.Form.{Form}
use Rattle.log_forms.specs.declared.Form.TheVariants.{Old, New}
use Rattle.log_forms.specs.declared.Fault.{Fault}
use Rattle.log_forms.specs.declared.Fault.TheVariants.{Unreadable, NoOldForm}
use Rattle.log_forms.specs.declared.BadRecord.{BadRecord}
use Rattle.log_forms.specs.declared.NotMoved.{NotMoved}
use Rattle.log_forms.specs.declared.NotMoved.TheVariants as not_moved

-- ---- a record, by the form that comes out

-- "old form to new turns each event 1 into an event 9 of type 0", which has that octet "after presentation", which is the
-- eighth of the body
abbrev pub new_record : List ℕ → List ℕ
new_record r = cond (eqb (get_or r 0 0) 1) (9 ∷ (take 8 (drop 1 r) ++ (0 ∷ drop 9 r))) r

-- "new to old turns each event 9 of type 0 into an event 1"; one of another type is bad
abbrev pub old_record : List ℕ → List ℕ
old_record r = cond (eqb (get_or r 0 0) 9) (1 ∷ (take 8 (drop 1 r) ++ drop 10 r)) r

abbrev pub moved_record : Form → List ℕ → List ℕ
moved_record New r = new_record r
moved_record Old r = old_record r

-- the records one behind the other, each in that form
unfoldable pub moved_records : Form → List (List ℕ) → List ℕ
moved_records form [] = []
moved_records form (r ∷ rs) = moved_record form r ++ moved_records form rs

-- ---- "3, 4 and 5 at the first bad record, where on the way back an event 9 of type 1 or 2 is bad too and gives 13 if
-- ---- it has none of those three"

abbrev pub number_fault : Form → PartyNumber → Option Fault
number_fault New n = None
number_fault Old n = cond (eqb n.type_of_number 0) None (Some NoOldForm)

abbrev pub fault_in : Form → Request → Option Fault
fault_in form (Malformed c) = Some (Unreadable c)
fault_in form (Open r l d n) = number_fault form n
fault_in form (Progress r s) = None
fault_in form (Hold r a) = None
fault_in form (Release l) = None
fault_in form (Facility r c) = None
fault_in form (Answer l) = None
fault_in form (LegFacility l n c) = None
fault_in form (Inform r c) = None

-- what is wrong with a record
abbrev pub fault : Form → List ℕ → Option Fault
fault form r = fault_in form (request r)

-- the record of that number, where it is bad, else what comes later
abbrev pub bad_or_later : ℕ → Option Fault → Option BadRecord → Option BadRecord
bad_or_later number None later = later
bad_or_later number (Some f) later = Some (record { number = number; fault = f })

-- the first bad one of some records, numbered from 1, with so many before them
unfoldable pub first_bad : Form → ℕ → List (List ℕ) → Option BadRecord
first_bad form before [] = None
first_bad form before (r ∷ rs) = bad_or_later (before + 1) (fault form r) (first_bad form (before + 1) rs)

-- ---- what comes of a log

-- "last 1 for a target too small"
abbrev pub fitting : ℕ → List ℕ → Result (List ℕ) NotMoved
fitting room os = cond (leb (length os) room) (Ok os) (Err not_moved.TargetTooSmall)

abbrev pub unless_bad : Option BadRecord → Result (List ℕ) NotMoved → Result (List ℕ) NotMoved
unless_bad None moved = moved
unless_bad (Some bad) moved = Err (not_moved.Bad bad)

-- records behind octets that stay, moved into a target of so many octets
unfoldable pub moved_behind : Form → List ℕ → List (List ℕ) → ℕ → Result (List ℕ) NotMoved
moved_behind form front rs room = unless_bad (first_bad form 0 rs) (fitting room (front ++ moved_records form rs))

-- "5 for missing or bad option octets, then .."; "slips 8 and 11 judge options by the opening for old logs" (slip 9)
unfoldable pub moved_log : Form → List ℕ → ℕ → Result (List ℕ) NotMoved
moved_log form [] room = Err not_moved.BadOptions
moved_log form (s ∷ []) room = Err not_moved.BadOptions
moved_log form (s ∷ (a ∷ later)) room =
    cond (takes ForOldLog (options s a)) (moved_behind form (s ∷ a ∷ []) (records later) room) (Err not_moved.BadOptions)
