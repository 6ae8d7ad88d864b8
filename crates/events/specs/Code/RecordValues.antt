-- What the record reader's answers say.
use Rattle.std.specs.Prelude.{ℕ, cond, List, [], ◌∷◌, eqb, length, Result, Ok, Err, None, Option, Some}
use denote.Ref.{Bor}
use Rattle.octets.specs.declared.CallReference.{CallReference}
use Rattle.board.specs.States.{valid_reference}
use Rattle.events.specs.declared.Refusal.{Refusal}
use Rattle.events.specs.declared.Refusal.TheVariants.{WrongLength, FieldOutOfRange}
use Rattle.events.specs.declared.records.Request.{Request as Asked}
use Rattle.events.specs.declared.records.Request.TheVariants as asked
use Rattle.events.specs.EventRecords.{Request, Malformed, Open, Progress, Hold, Release, Facility, Answer}
use Rattle.events.specs.EventRecords.{LegFacility, Inform, field}
use Rattle.events.specs.Records.{front_record, behind}

-- the request that an answer stands for
abbrev pub request_read : Result Asked Refusal → Request
request_read (Err c) = Malformed c
request_read (Ok (asked.Open r l d n)) = Open r.0 l d n
request_read (Ok (asked.Progress r s)) = Progress r.0 s
request_read (Ok (asked.Hold r a)) = Hold r.0 a
request_read (Ok (asked.Release l)) = Release l
request_read (Ok (asked.Facility r c)) = Facility r.0 c.now
request_read (Ok (asked.Answer l)) = Answer l
request_read (Ok (asked.LegFacility l n os)) = LegFacility l n os.now
request_read (Ok (asked.Inform r c)) = Inform r.0 c.now

-- the record in front of a log and the octets behind it, where the log has not ended
abbrev pub front_split : List ℕ → Option (List ℕ × List ℕ)
front_split [] = None
front_split (o ∷ os) = Some (front_record (o ∷ os), behind (o ∷ os))

-- the same, as they are lent
abbrev pub record_split : Option (Bor (List ℕ) × Bor (List ℕ)) → Option (List ℕ × List ℕ)
record_split None = None
record_split (Some (first, later)) = Some (first.now, later.now)

-- the reference, where it is in range
abbrev pub reference_read : ℕ → Result CallReference Refusal
reference_read n = cond (valid_reference n) (Ok (record { 0 = n })) (Err FieldOutOfRange)

-- the leg that is a body of four octets
abbrev pub leg_read : List ℕ → Result ℕ Refusal
leg_read b = cond (eqb (length b) 4) (Ok (field 0 4 b)) (Err WrongLength)
