-- What is decided of a request: refused, or what is to be done (document 01, "Event records", checks 6 to 11;
-- document 02, slips 5 and 6, check 12). The entries are the board's rows taken, or the book's entries.
use Rattle.std.specs.Prelude.{ℕ, Bool, true, false, ◌&&◌, cond, List, ℤ, take, None, Option, Some}
use Rattle.octets.specs.declared.LinkId.{LinkId}
use Rattle.octets.specs.Lists.{any, find}
use Rattle.component.specs.declared.Answer.TheVariants as answer
use Rattle.component.specs.Reading.{reading}
use Rattle.subaddresses.specs.SubaddressTransfer.{is_subaddress_transfer}
use Rattle.private_transfers.specs.EctInform.{EctInform, inform_in}
use Rattle.board.specs.declared.Direction.{Direction}
use Rattle.board.specs.declared.Direction.TheVariants.{Outgoing, Incoming}
use Rattle.board.specs.declared.CallState.{CallState}
use Rattle.board.specs.declared.CallState.TheVariants.{OutgoingCallProceeding, CallDelivered, CallReceived, Active}
use Rattle.board.specs.declared.AuxiliaryState.{AuxiliaryState}
use Rattle.board.specs.declared.AuxiliaryState.TheVariants.{Idle, HoldRequest, CallHeld, RetrieveRequest}
use Rattle.board.specs.declared.Call.{Call}
use Rattle.board.specs.declared.PartyNumber.{PartyNumber}
use Rattle.board.specs.declared.Options.{Options}
use Rattle.board.specs.declared.Change.{Change}
use Rattle.board.specs.declared.Change.TheVariants as change
use Rattle.board.specs.declared.RuleSet.{RuleSet}
use Rattle.board.specs.RuleSets.{rule_set}
use Rattle.board.specs.States.{active, holdable}
use Rattle.board.specs.declared.Connection.{Connection}
use Rattle.board.specs.declared.Connection.TheVariants.{WithUser, WithPartner}
use Rattle.board.specs.declared.Entry.{Entry}
use Rattle.board.specs.declared.Party.{Party}
use Rattle.board.specs.Entries.{calls, has_leg, has_reference, has_party_reference}
use Rattle.events.specs.declared.Refusal.{Refusal}
use Rattle.events.specs.declared.Refusal.TheVariants as refusal
use Rattle.events.specs.Refusals.{refusal_number}
use Rattle.events.specs.EventRecords.{Request, Malformed, Open, Progress, Hold, Release, Facility, Answer, LegFacility}
use Rattle.events.specs.EventRecords.{Inform}
use Rattle.rules.specs.Serving.{Service, Silent, Respond, AssignLinkId, Transfer, serve}
use Rattle.rules.specs.Replies.{Written, nothing, replied, transfer_replies, release_replies, answer_told, passed_on_record}
use Rattle.rules.specs.Replies.{inform_told}

-- what an event changes, on the board and in the book: a far party is entered, with its number,
-- or parties that are there change
pub data BoardChange : Type 0 where
  Enter : Party → PartyNumber → BoardChange
  Apply : Change → BoardChange

-- an event is refused, or accepted with the change that it makes, if any, and what it writes
pub data Decision : Type 0 where
  Refuse : Refusal → Decision
  Accept : Option BoardChange → Written → Decision

-- "Accepted events return 0"
abbrev pub returned_by : Decision → ℕ
returned_by (Refuse c) = refusal_number c
returned_by (Accept c w) = 0

-- "board and buffer untouched"
abbrev pub change_of : Decision → Option BoardChange
change_of (Refuse c) = None
change_of (Accept c w) = c

-- "with a refusal that number is 0 and the buffer is untouched"
abbrev pub written_by : Decision → Written
written_by (Refuse c) = nothing
written_by (Accept c w) = w

-- accepted, and parties that are there change
abbrev pub accept : Change → Written → Decision
accept c w = Accept (Some (Apply c)) w

-- the LinkId that a change gives to a call, if it gives one
abbrev pub assigned_by : Change → Option LinkId
assigned_by (change.SetState r s) = None
assigned_by (change.SetAuxiliary r a) = None
assigned_by (change.SetLinkId r l) = Some l
assigned_by (change.Join a b) = None
assigned_by (change.EndAlerting l) = None
assigned_by (change.Release l) = None
assigned_by (change.ReleasePair l p) = None

abbrev pub new_link_id_of : Option BoardChange → Option LinkId
new_link_id_of None = None
new_link_id_of (Some (Enter p n)) = None
new_link_id_of (Some (Apply c)) = assigned_by c

-- "state 3 if outgoing, 7 if incoming (H)"
abbrev pub first_state : Direction → CallState
first_state Outgoing = OutgoingCallProceeding
first_state Incoming = CallReceived

-- "Open takes .. state 3 if outgoing, 7 if incoming (H), Idle, no LinkId."
abbrev pub opened : ℕ → Direction → Call
opened r d = record { reference = record { 0 = r }; direction = d; state = first_state d; auxiliary = Idle; link = None }

-- "Progress: 3 to 4, 3 to 10, 4 to 10, 7 to 10."
abbrev pub may_progress : CallState → CallState → Bool
may_progress OutgoingCallProceeding OutgoingCallProceeding = false
may_progress OutgoingCallProceeding CallDelivered = true
may_progress OutgoingCallProceeding CallReceived = false
may_progress OutgoingCallProceeding Active = true
may_progress CallDelivered OutgoingCallProceeding = false
may_progress CallDelivered CallDelivered = false
may_progress CallDelivered CallReceived = false
may_progress CallDelivered Active = true
may_progress CallReceived OutgoingCallProceeding = false
may_progress CallReceived CallDelivered = false
may_progress CallReceived CallReceived = false
may_progress CallReceived Active = true
may_progress Active OutgoingCallProceeding = false
may_progress Active CallDelivered = false
may_progress Active CallReceived = false
may_progress Active Active = false

-- "Hold: 0 to 1, 1 to 2, 1 to 0, 2 to 3, 3 to 0, 3 to 2"
abbrev pub may_hold : AuxiliaryState → AuxiliaryState → Bool
may_hold Idle Idle = false
may_hold Idle HoldRequest = true
may_hold Idle CallHeld = false
may_hold Idle RetrieveRequest = false
may_hold HoldRequest Idle = true
may_hold HoldRequest HoldRequest = false
may_hold HoldRequest CallHeld = true
may_hold HoldRequest RetrieveRequest = false
may_hold CallHeld Idle = false
may_hold CallHeld HoldRequest = false
may_hold CallHeld CallHeld = false
may_hold CallHeld RetrieveRequest = true
may_hold RetrieveRequest Idle = true
may_hold RetrieveRequest HoldRequest = false
may_hold RetrieveRequest CallHeld = true
may_hold RetrieveRequest RetrieveRequest = false

-- the call with that reference
abbrev pub named : ℕ → List Entry → Option Party
named r es = find (has_party_reference r) (calls es)

-- the entry of that leg
abbrev pub entry_at : ℕ → List Entry → Option Entry
entry_at l es = find (has_leg l) es

-- "9: Progress, Hold, Facility: no call with that reference"; "11: a Progress, Hold or Answer not permitted above"
abbrev pub decide_progress : ℕ → CallState → Option Party → Decision
decide_progress r s None = Refuse refusal.NoSuchCall
decide_progress r s (Some p) =
    cond (may_progress p.call.state s) (accept (change.SetState (record { 0 = r }) s) nothing) (Refuse refusal.NotPermitted)

-- "in states 4 and 10"
abbrev pub decide_hold : ℕ → AuxiliaryState → Option Party → Decision
decide_hold r a None = Refuse refusal.NoSuchCall
decide_hold r a (Some p) =
    cond (holdable p.call.state && may_hold p.call.auxiliary a) (accept (change.SetAuxiliary (record { 0 = r }) a) nothing)
    (Refuse refusal.NotPermitted)

-- "Release empties the leg's row and, if joined, its partner's."
abbrev pub release_of : ℕ → Connection → Change
release_of l (WithUser c) = change.Release l
release_of l (WithPartner p a) = change.ReleasePair l p

-- "10: Release, Answer: no such leg"
abbrev pub decide_release : Option Entry → Decision
decide_release None = Refuse refusal.NoSuchLeg
decide_release (Some e) = accept (release_of e.leg e.connection) (release_replies e.connection)

-- "Answer: a joined, alerting leg stops alerting."
abbrev pub decide_alerting : RuleSet → ℕ → Connection → Decision
decide_alerting rules l (WithUser c) = Refuse refusal.NotPermitted
decide_alerting rules l (WithPartner p true) = accept (change.EndAlerting l) (answer_told rules l p)
decide_alerting rules l (WithPartner p false) = Refuse refusal.NotPermitted

abbrev pub decide_answer : RuleSet → ℕ → Option Entry → Decision
decide_answer rules l None = Refuse refusal.NoSuchLeg
decide_answer rules l (Some e) = decide_alerting rules l e.connection

-- what the component of the named party comes to: nothing or an answer alone, a new LinkId for its call, or a transfer;
-- "A LinkId lives until its call is released or transferred."
abbrev pub service_decision : Options → Party → Service → Decision
service_decision o p Silent = Accept None nothing
service_decision o p (Respond a) = Accept None (replied p.call.reference.0 a)
service_decision o p (AssignLinkId l i) =
    accept (change.SetLinkId p.call.reference l) (replied p.call.reference.0 (answer.LinkIdResult i l))
service_decision o p (Transfer x y i) =
    accept (change.Join x.leg y.leg) (transfer_replies (rule_set o) p.call.reference.0 i x y)

abbrev pub decide_facility : Options → ℤ → List Entry → List ℕ → Option Party → Decision
decide_facility o z es c None = Refuse refusal.NoSuchCall
decide_facility o z es c (Some p) = service_decision o p (serve o z (calls es) p (reading c))

-- "A SubaddressTransfer invoke .. on a joined leg is passed on unchanged to the partner, alerting or not"; "11 for a
-- leg still with the served user, then a new 12 for a component that isn't such an invoke" (document 02, slip 5)
abbrev pub decide_passing : ℕ → List ℕ → Connection → Decision
decide_passing n c (WithUser call) = Refuse refusal.NotPermitted
decide_passing n c (WithPartner p a) = cond (is_subaddress_transfer (take n c)) (Accept None (passed_on_record p n c)) (Refuse refusal.NoSuchInvoke)

-- "Checks: 10 for no such leg, then .."
abbrev pub decide_leg_facility : ℕ → List ℕ → Option Entry → Decision
decide_leg_facility n c None = Refuse refusal.NoSuchLeg
decide_leg_facility n c (Some e) = decide_passing n c e.connection

-- "12 for a component that isn't such an invoke"; "No row changes." (document 02, slip 6)
abbrev pub decide_informing : ℕ → Option EctInform → Decision
decide_informing l None = Refuse refusal.NoSuchInvoke
decide_informing l (Some i) = Accept None (inform_told l i)

-- "Checks: 9 for no such call, then 11 if the call isn't Active, then 12 .."
abbrev pub decide_inform : List ℕ → Option Party → Decision
decide_inform c None = Refuse refusal.NoSuchCall
decide_inform c (Some p) = cond (active p.call) (decide_informing p.leg (inform_in c)) (Refuse refusal.NotPermitted)

-- "6: Open: leg on the board"; "7: Open: reference in use"; "8: Open: no empty row"
abbrev pub decide_open : Bool → Bool → Bool → Decision → Decision
decide_open leg_there reference_there full d =
    cond leg_there (Refuse refusal.LegOnBoard) (cond reference_there (Refuse refusal.ReferenceInUse) (cond full (Refuse refusal.NoEmptyRow) d))

-- a far party with its new call and its number
abbrev pub opening : ℕ → ℕ → Direction → PartyNumber → Decision
opening r l d n = Accept (Some (Enter (record { leg = l; call = opened r d }) n)) nothing

-- by the options, the candidate, whether no row is empty, and the entries
unfoldable pub decide : Options → ℤ → Bool → List Entry → Request → Decision
decide o z full es (Malformed c) = Refuse c
decide o z full es (Open r l d n) = decide_open (any (has_leg l) es) (any (has_reference r) es) full (opening r l d n)
decide o z full es (Progress r s) = decide_progress r s (named r es)
decide o z full es (Hold r a) = decide_hold r a (named r es)
decide o z full es (Release l) = decide_release (entry_at l es)
decide o z full es (Facility r c) = decide_facility o z es c (named r es)
decide o z full es (Answer l) = decide_answer (rule_set o) l (entry_at l es)
decide o z full es (LegFacility l n c) = decide_leg_facility n c (entry_at l es)
decide o z full es (Inform r c) = decide_inform c (named r es)
