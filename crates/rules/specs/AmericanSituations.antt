-- What comes of American rules, beside document 01's situations (document 02, slip 7; T1.643, table 2 and 4.2.2.2).
use Rattle.std.specs.Prelude.{ℕ, ◌≡◌, List, [], ◌∷◌, replicate}
use Rattle.octets.specs.declared.IntegerOctets.TheVariants.{One}
use Rattle.component.specs.declared.Answer.TheVariants as answer
use Rattle.component.specs.declared.Reject.TheVariants.{Invoke}
use Rattle.board.specs.declared.CallState.TheVariants.{CallDelivered, Active}
use Rattle.board.specs.declared.AuxiliaryState.TheVariants.{Idle, HoldRequest, CallHeld, RetrieveRequest}
use Rattle.board.specs.declared.RuleSet.TheVariants.{American}
use Rattle.board.specs.declared.Board.{Board}
use Rattle.board.specs.Making.{Live, ForOldLog, fresh, empty_board, options}
use Rattle.rules.specs.Pairing.{verdict}
use Rattle.rules.specs.Replies.{Reply, Tell, Drop, TellNumber, given, mark_only, facility}
use Rattle.rules.specs.Replies.{transferred_alerting, transferred_active}
use Rattle.rules.specs.Step.{step}
use Rattle.rules.specs.Situations.{open_record, progress_record, facility_record, ect_execute, explicit_ect_execute}
use Rattle.rules.specs.Situations.{ect_link_id_request, after_records, number_and_octets, answered_by, call, error_on}

-- reference and leg r, outgoing, shown, the one digit d
abbrev pub open_with : ℕ → ℕ → List ℕ
open_with r d = 1 ∷ 0 ∷ r ∷ 0 ∷ 0 ∷ 0 ∷ r ∷ 0 ∷ 0 ∷ 1 ∷ d ∷ replicate 14 0

abbrev pub digit_told : ℕ → TellNumber
digit_told d = given 0 1 (d ∷ replicate 14 0)

-- call 1 Active, call 2 in state s, both Idle, each with a LinkId: 0 and 1
unfoldable pub neither_held : ℕ → ℕ → Board
neither_held alerting s =
    after_records (fresh ForOldLog 1 alerting).board
    (open_with 1 0x31 ∷ open_with 2 0x32 ∷ progress_record 1 10 ∷ progress_record 2 s
    ∷ facility_record ect_link_id_request 1 ∷ facility_record ect_link_id_request 2 ∷ [])

-- not subscribed
unfoldable pub unsubscribed : Board
unsubscribed = after_records (fresh Live 0 2).board (open_record 1 ∷ [])

-- the empty board with these options, whatever they are
abbrev pub with_options : ℕ → ℕ → Board
with_options s a = empty_board (options s a)

abbrev pub problem_on : ℕ → List ℕ
problem_on r = answered_by (Reply r (answer.Rejected (Invoke (One 5) 1)) ∷ [])

pub record AmericanSituations : Type 0 where
  -- "The pair rule there allows neither call held as well as exactly one; Hold Request and Retrieve Request still
  -- give 0."
  pub both_idle : verdict American (call Active Idle) (call Active Idle) ≡ 1
  pub one_held : verdict American (call Active CallHeld) (call Active Idle) ≡ 1
  pub both_held : verdict American (call Active CallHeld) (call Active CallHeld) ≡ 0
  pub hold_request_with_idle : verdict American (call Active HoldRequest) (call Active Idle) ≡ 0
  pub retrieve_request_with_idle : verdict American (call Active RetrieveRequest) (call Active Idle) ≡ 0
  pub active_idle_with_delivered_idle : verdict American (call Active Idle) (call CallDelivered Idle) ≡ 2
  pub active_held_with_delivered_idle : verdict American (call Active CallHeld) (call CallDelivered Idle) ≡ 2
  pub active_idle_with_delivered_held : verdict American (call Active Idle) (call CallDelivered CallHeld) ≡ 2
  -- the named call's own LinkId, where the verdict of the call with itself is 1
  pub explicit_with_own_link :
      number_and_octets (neither_held 2 10) (facility_record (explicit_ect_execute 0) 1) ≡ error_on 1 7
  pub transferred_neither_held :
      number_and_octets (neither_held 2 10) (facility_record (explicit_ect_execute 0) 2)
      ≡ answered_by
      (Reply 2 (answer.Result (One 5))
      ∷ Drop 2
      ∷ Drop 1
      ∷ Tell 2 facility transferred_active (digit_told 0x31) 1
      ∷ Tell 1 facility transferred_active (digit_told 0x32) 1
      ∷ [])
  -- "EctExecute is answered there by invoke problem 1, subscribed or not"
  pub execute_subscribed : number_and_octets (neither_held 2 10) (facility_record ect_execute 1) ≡ problem_on 1
  pub execute_unsubscribed : number_and_octets unsubscribed (facility_record ect_execute 1) ≡ problem_on 1
  pub request_unsubscribed : number_and_octets unsubscribed (facility_record ect_link_id_request 1) ≡ error_on 1 0
  pub explicit_unsubscribed : number_and_octets unsubscribed (facility_record (explicit_ect_execute 9) 1) ≡ error_on 1 0
  -- "without and with alerting transfer"
  pub alerting_not_allowed :
      number_and_octets (neither_held 2 4) (facility_record (explicit_ect_execute 1) 1) ≡ error_on 1 7
  -- "An alerting party gets no Tell until it answers", whichever call is named
  pub active_named :
      number_and_octets (neither_held 3 4) (facility_record (explicit_ect_execute 1) 1)
      ≡ answered_by
      (Reply 1 (answer.Result (One 5)) ∷ Drop 1 ∷ Drop 2 ∷ Tell 1 facility transferred_alerting (mark_only 0) 1 ∷ [])
  pub alerting_named :
      number_and_octets (neither_held 3 4) (facility_record (explicit_ect_execute 0) 2)
      ≡ answered_by
      (Reply 2 (answer.Result (One 5)) ∷ Drop 2 ∷ Drop 1 ∷ Tell 1 facility transferred_alerting (mark_only 0) 1 ∷ [])
  -- "then its partner and, after that, itself are told FACILITY, EA, with the other's number, request 0"
  pub answered :
      number_and_octets
      (after_records (neither_held 3 4) (facility_record (explicit_ect_execute 1) 1 ∷ []))
      (6 ∷ 0 ∷ 0 ∷ 0 ∷ 2 ∷ [])
      ≡ answered_by
      (Tell 1 facility transferred_active (digit_told 0x32) 0
      ∷ Tell 2 facility transferred_active (digit_told 0x31) 0
      ∷ [])
  -- "5 for a second option octet above 3 when a board is made"
  pub made_with_3 : (fresh Live 0 3).returned ≡ 0
  pub refused_with_4 : (fresh Live 0 4).returned ≡ 5
  -- "and 2 for a board with one"
  pub board_with_4 : (step (with_options 1 4) (open_record 1) 128).returned ≡ 2
