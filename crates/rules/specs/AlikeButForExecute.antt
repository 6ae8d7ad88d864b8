-- What the first option octet 2 makes different (document 02, slip 9): an EctExecute, and no other event. The second is
-- claimed beside the slip's own words.
use Rattle.std.specs.Prelude.{ℕ, ◌≡◌, Bool, true, false, List, [], ◌∷◌}
use Rattle.octets.specs.declared.IntegerOctets.{IntegerOctets}
use Rattle.component.specs.declared.Answer.TheVariants as answer
use Rattle.component.specs.declared.Reject.TheVariants.{Invoke}
use Rattle.component.specs.declared.Operation.TheVariants.{EctExecute, ExplicitEctExecute, EctLinkIdRequest}
use Rattle.component.specs.declared.Reading.{Reading}
use Rattle.component.specs.declared.Reading.TheVariants.{Ignored, Rejected, Invoked}
use Rattle.component.specs.Reading.{reading}
use Rattle.board.specs.declared.Board.{Board}
use Rattle.events.specs.EventRecords.{Request, request, Malformed, Open, Progress, Hold, Release, Facility, Answer}
use Rattle.events.specs.EventRecords.{LegFacility, Inform}
use Rattle.rules.specs.Replies.{ReplyRecord, Reply}
use Rattle.rules.specs.Step.{Outcome, step}

-- read as an EctExecute
abbrev pub reads_execute : Reading → Bool
reads_execute Ignored = false
reads_execute (Rejected r) = false
reads_execute (Invoked i EctExecute) = true
reads_execute (Invoked i (ExplicitEctExecute l)) = false
reads_execute (Invoked i EctLinkIdRequest) = false

abbrev pub asks_execute : Request → Bool
asks_execute (Malformed c) = false
asks_execute (Open r l d n) = false
asks_execute (Progress r s) = false
asks_execute (Hold r a) = false
asks_execute (Release l) = false
asks_execute (Facility r c) = reads_execute (reading c)
asks_execute (Answer l) = false
asks_execute (LegFacility l n c) = false
asks_execute (Inform r c) = false

-- an EctExecute is a Facility whose component is read as that operation
abbrev pub is_execute : List ℕ → Bool
is_execute os = asks_execute (request os)

-- the board with that first option octet, all else as it is
abbrev pub with_subscribed : ℕ → Board → Board
with_subscribed s b = record { rows = b.rows; options = record { subscribed = s; alerting = b.options.alerting }; candidate = b.candidate }

abbrev pub outcome_with : ℕ → Outcome → Outcome
outcome_with s o = record { returned = o.returned; board = with_subscribed s o.board; replies = o.replies }

-- the statement: what comes of it with 2 is what comes of it with 1, on the board with 2
abbrev pub StepsAlike : Board → List ℕ → ℕ → Type 0
StepsAlike b os room = step (with_subscribed 2 b) os room ≡ outcome_with 2 (step (with_subscribed 1 b) os room)

-- an EctExecute with that identifier, on the call with that reference
pub record Executes (event : List ℕ) (r : ℕ) (i : IntegerOctets) : Type 0 where
  pub component : List ℕ
  pub asked : request event ≡ Facility r component
  pub read : reading component ≡ Invoked i EctExecute

-- "EctExecute then gets invoke problem 1"
abbrev pub problem_1 : ℕ → IntegerOctets → List ReplyRecord
problem_1 r i = Reply r (answer.Rejected (Invoke i 1)) ∷ []

-- the statement, of an EctExecute that is accepted on the board with 2
abbrev pub StepsRejected : Board → List ℕ → ℕ → ℕ → IntegerOctets → Type 0
StepsRejected b os room r i =
    (step (with_subscribed 2 b) os room).returned ≡ 0
    → step (with_subscribed 2 b) os room ≡ record { returned = 0; board = with_subscribed 2 b; replies = problem_1 r i }
