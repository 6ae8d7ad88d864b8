-- What comes of regrouping a log and of undoing an archive: the checks (document 02, slip 11).
use Rattle.std.specs.Prelude.{ℕ, ◌+◌, Bool, ◌&&◌, cond, List, [], ◌∷◌, ◌++◌, flat_map, eqb, leb, length, take, drop}
use Rattle.std.specs.Prelude.{get_or, None, Option, Some, Result, Ok, Err}
use Rattle.octets.specs.Numbers.{number_of}
use Rattle.board.specs.Making.{ForOldLog, options, takes}
use Rattle.events.specs.EventRecords.{Request, request, Malformed, Open, Progress, Hold, Release, Facility, Answer}
use Rattle.events.specs.EventRecords.{LegFacility, Inform}
use Rattle.events.specs.Records.{records}
use Rattle.events.specs.declared.Refusal.{Refusal}
use Rattle.log_archives.specs.declared.BadRecord.{BadRecord}
use Rattle.log_archives.specs.declared.NotRegrouped.{NotRegrouped}
use Rattle.log_archives.specs.declared.NotRegrouped.TheVariants.{Unfit, CutShort, UnknownKind, BodiesDisagree, Bad, TargetTooSmall}
use Rattle.log_archives.specs.Regrouping.{listed_kinds, archive_of}
use Rattle.log_archives.specs.Undoing.{listed, octets_of, undone_records}

-- "5 if it has fewer than two octets or more than 65,536 or bad options"; "judge options by the opening for old logs"
-- (slip 9)
abbrev pub fit : ℕ → List ℕ → Bool
fit most os = leb 2 (length os) && (leb (length os) most && takes ForOldLog (options (get_or os 0 0) (get_or os 1 0)))

-- ---- "then 3, 4 and 5 at the first bad record"

abbrev pub refusal_in : Request → Option Refusal
refusal_in (Malformed c) = Some c
refusal_in (Open r l d n) = None
refusal_in (Progress r s) = None
refusal_in (Hold r a) = None
refusal_in (Release l) = None
refusal_in (Facility r c) = None
refusal_in (Answer l) = None
refusal_in (LegFacility l n c) = None
refusal_in (Inform r c) = None

-- the record of that number, where it is refused, else what comes later
abbrev pub bad_or_later : ℕ → Option Refusal → Option BadRecord → Option BadRecord
bad_or_later number None later = later
bad_or_later number (Some c) later = Some (record { number = number; refusal = c })

-- the first bad one of some records, numbered from 1, with so many before them
unfoldable pub first_bad : ℕ → List (List ℕ) → Option BadRecord
first_bad before [] = None
first_bad before (r ∷ rs) = bad_or_later (before + 1) (refusal_in (request r)) (first_bad (before + 1) rs)

-- "in each case 1 for a target too small, last"
abbrev pub fitting : ℕ → List ℕ → Result (List ℕ) NotRegrouped
fitting room os = cond (leb (length os) room) (Ok os) (Err TargetTooSmall)

abbrev pub unless_bad : Option BadRecord → Result (List ℕ) NotRegrouped → Result (List ℕ) NotRegrouped
unless_bad None made = made
unless_bad (Some bad) made = Err (Bad bad)

-- ---- a log

unfoldable pub packed_records : List ℕ → List (List ℕ) → ℕ → Result (List ℕ) NotRegrouped
packed_records front rs room = unless_bad (first_bad 0 rs) (fitting room (archive_of front rs))

unfoldable pub packed : List ℕ → ℕ → Result (List ℕ) NotRegrouped
packed log room = cond (fit 65536 log) (packed_records (take 2 log) (records (drop 2 log)) room) (Err Unfit)

-- ---- an archive

-- the records one behind the other, behind the option octets
abbrev pub log_of : List ℕ → List (List ℕ) → List ℕ
log_of front rs = front ++ flat_map (λ (r : List ℕ). r) rs

-- "then 5 for a bad field in any record", which is all that is left
unfoldable pub unpacked_records : List ℕ → List (List ℕ) → ℕ → Result (List ℕ) NotRegrouped
unpacked_records front rs room = unless_bad (first_bad 0 rs) (fitting room (log_of front rs))

-- the number of the first kind that is not listed, from 1, with so many before it
unfoldable pub first_unknown : ℕ → List ℕ → Option ℕ
first_unknown before [] = None
first_unknown before (k ∷ ks) = cond (listed k) (first_unknown (before + 1) ks) (Some (before + 1))

abbrev pub unless_unknown : Option ℕ → Result (List ℕ) NotRegrouped → Result (List ℕ) NotRegrouped
unless_unknown None made = made
unless_unknown (Some number) made = Err (UnknownKind number)

-- "4 for an unknown kind, 3 where the bodies' length disagrees with the kinds"
unfoldable pub unpacked_kinds : List ℕ → List ℕ → List ℕ → ℕ → Result (List ℕ) NotRegrouped
unpacked_kinds front ks os room =
    unless_unknown (first_unknown 0 ks)
    (cond (eqb (length os) (octets_of listed_kinds ks)) (unpacked_records front (undone_records ks os) room) (Err BodiesDisagree))

-- "3 if the count or the kinds are cut short", of what lies behind the option octets
unfoldable pub unpacked_counted : List ℕ → List ℕ → ℕ → Result (List ℕ) NotRegrouped
unpacked_counted front os room =
    cond (leb 4 (length os) && leb (number_of (take 4 os)) (length (drop 4 os)))
    (unpacked_kinds front (take (number_of (take 4 os)) (drop 4 os)) (drop (number_of (take 4 os)) (drop 4 os)) room)
    (Err CutShort)

-- "5 if it has fewer than two octets or more than 65,540 or bad options"
unfoldable pub unpacked : List ℕ → ℕ → Result (List ℕ) NotRegrouped
unpacked archive room = cond (fit 65540 archive) (unpacked_counted (take 2 archive) (drop 2 archive) room) (Err Unfit)
