-- The situations that document 01 marks (its section "Situations"), and its worked log, as statements about the rules.
use Rattle.std.specs.Prelude.{ℕ, zero, suc, ◌≡◌, List, [], ◌∷◌, ◌++◌, ℤ, pos, negsuc, length, replicate, None}
use Rattle.octets.specs.declared.IntegerOctets.TheVariants.{One}
use Rattle.octets.specs.Numbers.{fewest}
use Rattle.component.specs.declared.Answer.TheVariants as answer
use Rattle.component.specs.Answers.{integer, filled}
use Rattle.board.specs.declared.Direction.TheVariants.{Outgoing}
use Rattle.board.specs.declared.CallState.{CallState}
use Rattle.board.specs.declared.CallState.TheVariants.{CallDelivered, Active}
use Rattle.board.specs.declared.AuxiliaryState.{AuxiliaryState}
use Rattle.board.specs.declared.AuxiliaryState.TheVariants.{Idle, HoldRequest, CallHeld}
use Rattle.board.specs.declared.RuleSet.TheVariants.{European}
use Rattle.board.specs.declared.Call.{Call}
use Rattle.board.specs.declared.Board.{Board}
use Rattle.board.specs.Making.{ForOldLog, fresh}
use Rattle.board.specs.Counts.{counts}
use Rattle.rules.specs.Pairing.{verdict}
use Rattle.rules.specs.Replies.{ReplyRecord, Reply, Tell, Drop, octets, mark_only, facility, transferred_active}
use Rattle.rules.specs.Step.{step}

-- ---- event records

-- reference and leg r, outgoing, shown, number unknown
abbrev pub open_record : ℕ → List ℕ
open_record r = 1 ∷ 0 ∷ r ∷ 0 ∷ 0 ∷ 0 ∷ r ∷ 0 ∷ 0 ∷ 0 ∷ replicate 15 0

abbrev pub progress_record : ℕ → ℕ → List ℕ
progress_record r s = 2 ∷ 0 ∷ r ∷ s ∷ []

abbrev pub hold_record : ℕ → ℕ → List ℕ
hold_record r a = 3 ∷ 0 ∷ r ∷ a ∷ []

abbrev pub facility_record : List ℕ → ℕ → List ℕ
facility_record c r = 5 ∷ 0 ∷ r ∷ length c ∷ filled c

abbrev pub ect_execute : List ℕ
ect_execute = 0xA1 ∷ 0x06 ∷ 0x02 ∷ 0x01 ∷ 0x05 ∷ 0x02 ∷ 0x01 ∷ 0x06 ∷ []

-- with a LinkId of one octet
abbrev pub explicit_ect_execute : ℕ → List ℕ
explicit_ect_execute l =
    0xA1 ∷ 0x0E ∷ 0x02 ∷ 0x01 ∷ 0x05 ∷ 0x06 ∷ 0x06 ∷ 0x04 ∷ 0x00 ∷ 0x82 ∷ 0x71 ∷ 0x01 ∷ 0x01 ∷ 0x02 ∷ 0x01 ∷ l ∷ []

abbrev pub ect_link_id_request : List ℕ
ect_link_id_request = 0xA1 ∷ 0x0B ∷ 0x02 ∷ 0x01 ∷ 0x05 ∷ 0x06 ∷ 0x06 ∷ 0x04 ∷ 0x00 ∷ 0x82 ∷ 0x71 ∷ 0x01 ∷ 0x04 ∷ []

-- ---- boards

-- the board after records, each with a reply buffer of 128 octets
unfoldable pub after_records : Board → List (List ℕ) → Board
after_records b [] = b
after_records b (r ∷ rs) = after_records (step b r 128).board rs

-- the number returned, and the octets written
abbrev pub number_and_octets : Board → List ℕ → List ℕ
number_and_octets b r = (step b r 128).returned ∷ octets (step b r 128).replies

-- accepted, with these records
abbrev pub answered_by : List ReplyRecord → List ℕ
answered_by rs = 0 ∷ octets rs

-- f at 1 to n
unfoldable pub up_to : ℕ → (ℕ → List ℕ) → List (List ℕ)
up_to zero f = []
up_to (suc n) f = up_to n f ++ (f (suc n) ∷ [])

abbrev pub with_candidate : ℤ → Board → Board
with_candidate z b = record { rows = b.rows; options = b.options; candidate = record { 0 = z } }

-- calls 1 to n, all Active, and of them call 1 held
unfoldable pub held_and_idle : ℕ → Board
held_and_idle n =
    after_records (fresh ForOldLog 1 0).board
    (up_to n open_record ++ (up_to n (λ (r : ℕ). progress_record r 10) ++ (hold_record 1 1 ∷ hold_record 1 2 ∷ [])))

-- 17 calls, of which calls 1 to 16 have LinkIds, 0 to 15
unfoldable pub sixteen_live : Board
sixteen_live = after_records (fresh ForOldLog 1 0).board (up_to 17 open_record ++ up_to 16 (facility_record ect_link_id_request))

abbrev pub call : CallState → AuxiliaryState → Call
call s a = record { reference = record { 0 = 1 }; direction = Outgoing; state = s; auxiliary = a; link = None }

-- ---- answers to the invoke with identifier 5

abbrev pub error_on : ℕ → ℕ → List ℕ
error_on r e = answered_by (Reply r (answer.Error (One 5) e) ∷ [])

abbrev pub link_id_on : ℕ → ℤ → List ℕ
link_id_on r z = answered_by (Reply r (answer.LinkIdResult (One 5) (record { 0 = z })) ∷ [])

-- ---- the situations, one field for each line marked in document 01

pub record Situations : Type 0 where
  -- "Active Held with Active Idle: 1." "Both Held: 0." "Active Held with Delivered Idle: 2." "Hold Request with Idle: 0."
  pub active_held_with_active_idle : verdict European (call Active CallHeld) (call Active Idle) ≡ 1
  pub both_held : verdict European (call Active CallHeld) (call Active CallHeld) ≡ 0
  pub active_held_with_delivered_idle : verdict European (call Active CallHeld) (call CallDelivered Idle) ≡ 2
  pub hold_request_with_idle : verdict European (call Active HoldRequest) (call Active Idle) ≡ 0
  -- "LinkId octets: 127 is 02 01 7F, 128 is 02 02 00 80, -128 is 02 01 80, -129 is 02 02 FF 7F."
  pub link_127 : integer (fewest (pos 127)) ≡ 0x02 ∷ 0x01 ∷ 0x7F ∷ []
  pub link_128 : integer (fewest (pos 128)) ≡ 0x02 ∷ 0x02 ∷ 0x00 ∷ 0x80 ∷ []
  pub link_minus_128 : integer (fewest (negsuc 127)) ≡ 0x02 ∷ 0x01 ∷ 0x80 ∷ []
  pub link_minus_129 : integer (fewest (negsuc 128)) ≡ 0x02 ∷ 0x02 ∷ 0xFF ∷ 0x7F ∷ []
  -- "Candidate 32767, none live: 32767 given, then -32768 to another call."
  pub candidate_32767 : number_and_octets (with_candidate (pos 32767) (held_and_idle 2)) (facility_record ect_link_id_request 1) ≡ link_id_on 1 (pos 32767)
  pub candidate_wraps :
      number_and_octets
      (after_records (with_candidate (pos 32767) (held_and_idle 2)) (facility_record ect_link_id_request 1 ∷ []))
      (facility_record ect_link_id_request 2)
      ≡ link_id_on 2 (negsuc 32767)
  -- "16 live: a seventeenth call gets e = 11"; "one of the 16 gets its value."
  pub seventeenth_call : number_and_octets sixteen_live (facility_record ect_link_id_request 17) ≡ error_on 17 11
  pub one_of_the_16 : number_and_octets sixteen_live (facility_record ect_link_id_request 5) ≡ link_id_on 5 (pos 4)
  -- "Explicit with the named call's own LinkId: 7." "Unsubscribed and LinkId unknown: 0."
  pub explicit_with_own_link :
      number_and_octets (after_records (held_and_idle 2) (facility_record ect_link_id_request 1 ∷ [])) (facility_record (explicit_ect_execute 0) 1)
      ≡ error_on 1 7
  pub unsubscribed_and_link_unknown :
      number_and_octets (after_records (fresh ForOldLog 0 0).board (open_record 1 ∷ [])) (facility_record (explicit_ect_execute 9) 1)
      ≡ error_on 1 0
  -- "One Active Held, two Active Idle: EctExecute on the held one, 7; on an idle one, transfer."
  pub execute_on_the_held_one : number_and_octets (held_and_idle 3) (facility_record ect_execute 1) ≡ error_on 1 7
  pub execute_on_an_idle_one :
      number_and_octets (held_and_idle 3) (facility_record ect_execute 2)
      ≡ answered_by
      (Reply 2 (answer.Result (One 5))
      ∷ Drop 2
      ∷ Drop 1
      ∷ Tell 2 facility transferred_active (mark_only 0) 1
      ∷ Tell 1 facility transferred_active (mark_only 0) 1
      ∷ [])
  -- "Buffer 127: refusal 1; 128: not."
  pub buffer_127 : (step (held_and_idle 2) (open_record 3) 127).returned ≡ 1
  pub buffer_128 : (step (held_and_idle 2) (open_record 3) 128).returned ≡ 0
  -- "Counts of a fresh board: 0, 0, 0; after a transfer with no third call: legs 2, pairs 1, links 0."
  pub counts_of_a_fresh_board : counts (fresh ForOldLog 1 1).board.rows ≡ record { returned = 0; legs = 0; pairs = 0; links = 0 }
  pub counts_after_a_transfer :
      counts (after_records (held_and_idle 2) (facility_record ect_execute 1 ∷ [])).rows
      ≡ record { returned = 0; legs = 2; pairs = 1; links = 0 }

-- ---- the worked log, record by record

-- what each record says, and the counts at the end
unfoldable pub log : Board → List (List ℕ) → List (List ℕ)
log b [] = []
log b (r ∷ rs) = number_and_octets b r ∷ log (step b r 128).board rs

-- "Open reference 1, leg 7, outgoing, shown, digits 21"
abbrev pub worked_open : List ℕ
worked_open = 1 ∷ 0 ∷ 1 ∷ 0 ∷ 0 ∷ 0 ∷ 7 ∷ 0 ∷ 0 ∷ 2 ∷ 0x32 ∷ 0x31 ∷ replicate 13 0

-- "Facility on 1 with A1 0B 02 01 05 06 06 04 00 82 71 01 04; the same on 2"
abbrev pub worked_records : List (List ℕ)
worked_records = worked_open ∷ facility_record ect_link_id_request 1 ∷ facility_record ect_link_id_request 2 ∷ []

-- a210020105300b0606040082710104020100
abbrev pub worked_component : List ℕ
worked_component =
    0xa2 ∷ 0x10 ∷ 0x02 ∷ 0x01 ∷ 0x05 ∷ 0x30 ∷ 0x0b ∷ 0x06 ∷ 0x06 ∷ 0x04 ∷ 0x00 ∷ 0x82 ∷ 0x71 ∷ 0x01 ∷ 0x04 ∷ 0x02 ∷ 0x01 ∷ 0x00 ∷ []

pub record WorkedLog : Type 0 where
  -- "1 1 0 -", "2 5 0 81000112a210020105300b060604008271010402010000..", "3 5 9 -"
  pub lines :
      log (fresh ForOldLog 1 0).board worked_records
      ≡ (0 ∷ [])
      ∷ (0 ∷ 0x81 ∷ 0x00 ∷ 0x01 ∷ 0x12 ∷ (worked_component ++ replicate 14 0))
      ∷ (9 ∷ [])
      ∷ []
  -- "end 1 0 1"
  pub end : counts (after_records (fresh ForOldLog 1 0).board worked_records).rows ≡ record { returned = 0; legs = 1; pairs = 0; links = 1 }
