-- Two events on unrelated calls, in either order (document 02, slip 13): what is asked, and the same with less asked.
use Rattle.std.specs.Prelude.{ℕ, ◌≡◌, ◌≤◌, Bool, true, false, ◌&&◌, not, List, eqb, ltb, T, length, None, Option, Some}
use Rattle.octets.specs.Tests.{has_both}
use Rattle.board.specs.declared.Board.{Board}
use Rattle.board.specs.Soundness.{sound}
use Rattle.events.specs.EventRecords.{Request, Malformed, Open, Progress, Hold, Release, Facility, Answer, LegFacility, Inform, request}
use Rattle.rules.specs.History.{Event, stepped}
use Rattle.ect.specs.CallHistory.{StepCall, written}

-- ---- which events

-- the reference that a Progress or Hold names, as a record is read that "checks 3 to 5 let pass"
abbrev pub reference_named : Request → Option ℕ
reference_named (Malformed c) = None
reference_named (Open r l d n) = None
reference_named (Progress r s) = Some r
reference_named (Hold r a) = Some r
reference_named (Release l) = None
reference_named (Facility r c) = None
reference_named (Answer l) = None
reference_named (LegFacility l n c) = None
reference_named (Inform r c) = None

-- "two such events that checks 3 to 5 let pass and that name different references"; "Events on one reference are left
-- out, and so are Open, Release, Answer, Facility and the events of slips 5 and 6."
pub record DifferentReferences (e f : List ℕ) : Type 0 where
  pub of_e : ℕ
  pub of_f : ℕ
  pub e_names : reference_named (request e) ≡ Some of_e
  pub f_names : reference_named (request f) ≡ Some of_f
  pub differ : T (not (eqb of_e of_f))

-- less is asked: a record that one of the checks 3 to 5 refuses will do in place of either
abbrev pub is_malformed_or_names : Request → Bool
is_malformed_or_names (Malformed c) = true
is_malformed_or_names (Open r l d n) = false
is_malformed_or_names (Progress r s) = true
is_malformed_or_names (Hold r a) = true
is_malformed_or_names (Release l) = false
is_malformed_or_names (Facility r c) = false
is_malformed_or_names (Answer l) = false
is_malformed_or_names (LegFacility l n c) = false
is_malformed_or_names (Inform r c) = false

abbrev pub unrelated : Request → Request → Bool
unrelated p q = is_malformed_or_names p && is_malformed_or_names q && not (has_both eqb (reference_named p) (reference_named q))

-- ---- the statement, of the rules' step: the events e and f on the board b

pub record EitherOrder (b : Board) (e f : Event) : Type 0 where
  -- "each event returns the same in either order": the number, and the reply records
  pub e_returned : (stepped (stepped b f).board e).returned ≡ (stepped b e).returned
  pub f_returned : (stepped (stepped b e).board f).returned ≡ (stepped b f).returned
  pub e_replies : (stepped (stepped b f).board e).replies ≡ (stepped b e).replies
  pub f_replies : (stepped (stepped b e).board f).replies ≡ (stepped b f).replies
  -- "and the final board is the same"
  pub board : (stepped (stepped b e).board f).board ≡ (stepped (stepped b f).board e).board

-- "for a sound board, buffers of at least 128 octets"
abbrev pub Asked : Type 0
Asked = (b : Board) (e f : Event) → T (sound b) → 128 ≤ e.room → 128 ≤ f.room → DifferentReferences e.octets f.octets → EitherOrder b e f

-- whatever the board and the buffers
abbrev pub AskedOfAll : Type 0
AskedOfAll = (b : Board) (e f : Event) → T (unrelated (request e.octets) (request f.octets)) → EitherOrder b e f

-- ---- the statement, of four calls of `step`

-- e and then f, and f and then e, each pair from one board
pub record FourCalls : Type 0 where
  pub e_first : StepCall
  pub f_second : StepCall
  pub f_first : StepCall
  pub e_second : StepCall

-- the same two events in both orders
pub record SameEvents (c : FourCalls) : Type 0 where
  pub e : c.e_second.event ≡ c.e_first.event
  pub f : c.f_second.event ≡ c.f_first.event

-- "buffers of at least 128 octets"
pub record LargeBuffers (c : FourCalls) : Type 0 where
  pub e_first : 128 ≤ length c.e_first.before
  pub f_second : 128 ≤ length c.f_second.before
  pub f_first : 128 ≤ length c.f_first.before
  pub e_second : 128 ≤ length c.e_second.before

-- less is asked: the buffers of either event are both below 128 octets, or both not
abbrev pub is_small : StepCall → Bool
is_small c = ltb (length c.before) 128

pub record BuffersAlike (c : FourCalls) : Type 0 where
  pub e : is_small c.e_second ≡ is_small c.e_first
  pub f : is_small c.f_second ≡ is_small c.f_first

pub record SameInEitherOrder (c : FourCalls) : Type 0 where
  -- "each event returns the same in either order": the answer, and the octets written
  pub e_answer : c.e_second.returned.answer ≡ c.e_first.returned.answer
  pub f_answer : c.f_second.returned.answer ≡ c.f_first.returned.answer
  pub e_written : written c.e_second ≡ written c.e_first
  pub f_written : written c.f_second ≡ written c.f_first
  -- "and the final board is the same"
  pub board : c.f_second.returned.board ≡ c.e_second.returned.board
