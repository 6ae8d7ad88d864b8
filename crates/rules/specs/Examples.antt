-- Two lists of events computed to their ends, beside the whole-history theorem: a transfer while the second party alerts;
-- the same, then its answer, then a release. Beside `passed_on`, the subaddress that this party sends, beside `informed`,
-- what a private exchange says of a call, and, beside `old_console`, numbers with their types.
use Rattle.std.specs.Prelude.{ℕ, ◌-◌, ◌≡◌, true, false, List, [], ◌∷◌, ◌++◌, map, length, take, drop, get_or, replicate}
use Rattle.octets.specs.Lists.{any}
use Rattle.board.specs.declared.Connection.TheVariants.{WithPartner}
use Rattle.board.specs.declared.Entry.{Entry}
use Rattle.board.specs.Entries.{entry, taken, is_joined}
use Rattle.board.specs.Making.{ForOldLog, fresh}
use Rattle.board.specs.declared.Row.{Row}
use Rattle.rules.specs.Book.{fresh_book}
use Rattle.rules.specs.History.{Event, board_at, book_at, history, returns, stepped}
use Rattle.rules.specs.AmericanSituations.{open_with}
use Rattle.rules.specs.OldConsole.{met}
use Rattle.rules.specs.Replies.{octets}
use Rattle.rules.specs.Situations.{open_record, progress_record, hold_record, facility_record, ect_execute}

abbrev pub event : List ℕ → Event
event os = record { octets = os; room = 128 }

-- two calls, the first Active and held, the second Delivered; a second Open of leg 2, which is refused; EctExecute on
-- the first
abbrev pub transfer_list : List Event
transfer_list =
    map event
    (open_record 1 ∷ progress_record 1 10 ∷ hold_record 1 1 ∷ hold_record 1 2
    ∷ open_record 2 ∷ open_record 2 ∷ progress_record 2 4 ∷ facility_record ect_execute 1 ∷ [])

abbrev pub answer_leg : ℕ → Event
answer_leg l = event (6 ∷ 0 ∷ 0 ∷ 0 ∷ l ∷ [])

abbrev pub release_leg : ℕ → Event
release_leg l = event (4 ∷ 0 ∷ 0 ∷ 0 ∷ l ∷ [])

pub record HistoryExamples : Type 0 where
  pub returned : returns (fresh ForOldLog 1 1).board transfer_list ≡ 0 ∷ 0 ∷ 0 ∷ 0 ∷ 0 ∷ 6 ∷ 0 ∷ 0 ∷ []
  pub history_is :
      history (fresh_book ForOldLog 1 1) transfer_list
      ≡ map event
      (open_record 1 ∷ progress_record 1 10 ∷ hold_record 1 1 ∷ hold_record 1 2
      ∷ open_record 2 ∷ progress_record 2 4 ∷ facility_record ect_execute 1 ∷ [])
  -- the first party is joined with the second, which alerts, on the board and in the book
  pub transferred : taken (board_at (fresh ForOldLog 1 1).board transfer_list).rows ≡ entry 1 (WithPartner 2 false) ∷ entry 2 (WithPartner 1 true) ∷ []
  pub transferred_book : (book_at (fresh_book ForOldLog 1 1) transfer_list).entries ≡ entry 2 (WithPartner 1 true) ∷ entry 1 (WithPartner 2 false) ∷ []
  -- without the alerting option the same list transfers nothing
  pub not_transferred : returns (fresh ForOldLog 1 0).board transfer_list ≡ 0 ∷ 0 ∷ 0 ∷ 0 ∷ 0 ∷ 6 ∷ 0 ∷ 0 ∷ []
  pub calls_stay : any (λ (e : Entry). is_joined e.connection) (taken (board_at (fresh ForOldLog 1 0).board transfer_list).rows) ≡ false
  -- the answer ends the alerting, and the release of one ends both
  pub answered :
      taken (board_at (fresh ForOldLog 1 1).board (transfer_list ++ (answer_leg 2 ∷ []))).rows
      ≡ entry 1 (WithPartner 2 false) ∷ entry 2 (WithPartner 1 false) ∷ []
  pub released : taken (board_at (fresh ForOldLog 1 1).board (transfer_list ++ (answer_leg 2 ∷ release_leg 1 ∷ []))).rows ≡ []
  pub released_book : (book_at (fresh_book ForOldLog 1 1) (transfer_list ++ (answer_leg 2 ∷ release_leg 1 ∷ []))).entries ≡ []

-- a SubaddressTransfer invoke, the subaddress 37
abbrev pub subaddress_transfer : List ℕ
subaddress_transfer = 0xA1 ∷ 0x0E ∷ 0x02 ∷ 0x01 ∷ 0x05 ∷ 0x06 ∷ 0x06 ∷ 0x04 ∷ 0x00 ∷ 0x82 ∷ 0x71 ∷ 0x01 ∷ 0x03 ∷ 0x04 ∷ 0x01 ∷ 0x37 ∷ []

-- count, component, zeros
abbrev pub counted : List ℕ → List ℕ
counted c = length c ∷ (c ++ replicate (64 - length c) 0)

abbrev pub leg_facility : ℕ → List ℕ → Event
leg_facility l c = event (7 ∷ 0 ∷ 0 ∷ 0 ∷ l ∷ counted c)

-- after the transfer, and before it
pub record PassingExamples : Type 0 where
  -- leg 2, which alerts, sends its subaddress, and leg 1 gets it; a leg that is not there, and a component that is no
  -- such invoke
  pub passed_on :
      returns (board_at (fresh ForOldLog 1 1).board transfer_list)
      (leg_facility 2 subaddress_transfer ∷ leg_facility 3 subaddress_transfer ∷ leg_facility 2 ect_execute ∷ [])
      ≡ 0 ∷ 10 ∷ 12 ∷ []
  pub passed_on_octets :
      octets (stepped (board_at (fresh ForOldLog 1 1).board transfer_list) (leg_facility 2 subaddress_transfer)).replies
      ≡ 0x85 ∷ 0 ∷ 0 ∷ 0 ∷ 1 ∷ counted subaddress_transfer
  pub passed_on_board :
      taken (board_at (fresh ForOldLog 1 1).board (transfer_list ++ (leg_facility 2 subaddress_transfer ∷ []))).rows
      ≡ entry 1 (WithPartner 2 false) ∷ entry 2 (WithPartner 1 true) ∷ []
  -- before the transfer the leg is with the served user
  pub not_passed_on : returns (fresh ForOldLog 1 1).board (event (open_record 1) ∷ leg_facility 1 subaddress_transfer ∷ []) ≡ 0 ∷ 11 ∷ []

-- an EctInform invoke with this indication and the digits 21
abbrev pub ect_inform : ℕ → List ℕ
ect_inform i =
    0xA1 ∷ 0x16 ∷ 0x02 ∷ 0x01 ∷ 0x05 ∷ 0x06 ∷ 0x06 ∷ 0x04 ∷ 0x00 ∷ 0x82 ∷ 0x71 ∷ 0x01 ∷ 0x05
    ∷ 0x30 ∷ 0x09 ∷ 0x0A ∷ 0x01 ∷ i ∷ 0xA0 ∷ 0x04 ∷ 0x80 ∷ 0x02 ∷ 0x32 ∷ 0x31 ∷ []

abbrev pub inform : ℕ → List ℕ → Event
inform r c = event (8 ∷ 0 ∷ r ∷ counted c)

-- a call that is Active, reference 3 and leg 7, whose party is restricted and has the digits 99, of type 1; and one that
-- is not
abbrev pub restricted_list : List Event
restricted_list =
    map event
    ((9 ∷ 0 ∷ 3 ∷ 0 ∷ 0 ∷ 0 ∷ 7 ∷ 0 ∷ 1 ∷ 1 ∷ 2 ∷ 0x39 ∷ 0x39 ∷ replicate 13 0) ∷ progress_record 3 10 ∷ open_record 1 ∷ [])

pub record InformingExamples : Type 0 where
  -- active, alerting; no such call, a call that is not Active, a component that is no such invoke
  pub informed_numbers :
      returns (board_at (fresh ForOldLog 0 0).board restricted_list)
      (inform 3 (ect_inform 1) ∷ inform 3 (ect_inform 0) ∷ inform 2 (ect_inform 1) ∷ inform 1 (ect_inform 1)
      ∷ inform 3 (ect_inform 2) ∷ [])
      ≡ 0 ∷ 0 ∷ 9 ∷ 11 ∷ 12 ∷ []
  -- the number received is told, not the row's own, and it is given although the row is restricted
  pub active_octets :
      octets (stepped (board_at (fresh ForOldLog 0 0).board restricted_list) (inform 3 (ect_inform 1))).replies
      ≡ 0x82 ∷ 0 ∷ 0 ∷ 0 ∷ 7 ∷ 0 ∷ 0xEA ∷ 1 ∷ 1 ∷ 2 ∷ 0x32 ∷ 0x31 ∷ replicate 13 0
  -- for alerting it is ignored
  pub alerting_octets :
      octets (stepped (board_at (fresh ForOldLog 0 0).board restricted_list) (inform 3 (ect_inform 0))).replies
      ≡ 0x82 ∷ 0 ∷ 0 ∷ 0 ∷ 7 ∷ 1 ∷ 0xE9 ∷ 0 ∷ 0 ∷ 0 ∷ replicate 15 0
  pub informed_board :
      taken (board_at (fresh ForOldLog 0 0).board (restricted_list ++ (inform 3 (ect_inform 1) ∷ []))).rows
      ≡ taken (board_at (fresh ForOldLog 0 0).board restricted_list).rows

-- ---- types of number

-- reference and leg r, outgoing, the digit 9, as event 9; as event 1 it is `open_with r 0x39`
abbrev pub typed_open : ℕ → ℕ → ℕ → List ℕ
typed_open r presentation t = 9 ∷ 0 ∷ r ∷ 0 ∷ 0 ∷ 0 ∷ r ∷ 0 ∷ presentation ∷ t ∷ 1 ∷ 0x39 ∷ replicate 14 0

-- two calls, Active, the first held, its number of type t, the other's of type 0; EctExecute on it
abbrev pub typed_transfer : ℕ → ℕ → List Event
typed_transfer presentation t =
    map event
    (typed_open 1 presentation t ∷ open_with 2 0x39 ∷ progress_record 1 10 ∷ progress_record 2 10
    ∷ hold_record 1 1 ∷ hold_record 1 2 ∷ [])

-- what the transfer tells the two parties, behind the Reply and the Drops
abbrev pub told_by_transfer : ℕ → ℕ → List ℕ
told_by_transfer presentation t =
    drop 42
    (octets (stepped (board_at (fresh ForOldLog 1 0).board (typed_transfer presentation t)) (event (facility_record ect_execute 1))).replies)

-- to leg 1 the other's digit, of type 0
abbrev pub told_1 : List ℕ
told_1 = 0x82 ∷ 0 ∷ 0 ∷ 0 ∷ 1 ∷ 0 ∷ 0xEA ∷ 1 ∷ 1 ∷ 1 ∷ 0x39 ∷ replicate 14 0

pub record TypedExamples : Type 0 where
  -- "event 1 means type 0"
  pub same_board :
      board_at (fresh ForOldLog 0 0).board (event (typed_open 1 0 0) ∷ []) ≡ board_at (fresh ForOldLog 0 0).board (event (open_with 1 0x39) ∷ [])
  -- "a type of number (0 unknown, 1 international, 2 national)"
  pub types : returns (fresh ForOldLog 0 0).board (event (typed_open 1 0 2) ∷ event (typed_open 2 0 3) ∷ []) ≡ 0 ∷ 5 ∷ []
  -- a type without digits
  pub no_digits : returns (fresh ForOldLog 0 0).board (event (9 ∷ 0 ∷ 1 ∷ 0 ∷ 0 ∷ 0 ∷ 1 ∷ 0 ∷ 0 ∷ 2 ∷ 0 ∷ replicate 15 0) ∷ []) ≡ 0 ∷ []
  -- "A Tell whose number is given with type 1 or 2 is record 0x86 (type octet before the digit count ..)"
  pub international : told_by_transfer 0 1 ≡ told_1 ++ (0x86 ∷ 0 ∷ 0 ∷ 0 ∷ 2 ∷ 0 ∷ 0xEA ∷ 1 ∷ 1 ∷ 1 ∷ 1 ∷ 0x39 ∷ replicate 14 0)
  -- "all others stay 0x82": of type 0, or withheld
  pub unknown_type : told_by_transfer 0 0 ≡ told_1 ++ (0x82 ∷ 0 ∷ 0 ∷ 0 ∷ 2 ∷ 0 ∷ 0xEA ∷ 1 ∷ 1 ∷ 1 ∷ 0x39 ∷ replicate 14 0)
  pub withheld : told_by_transfer 1 2 ≡ told_1 ++ (0x82 ∷ 0 ∷ 0 ∷ 0 ∷ 2 ∷ 0 ∷ 0xEA ∷ 2 ∷ 1 ∷ 0 ∷ replicate 15 0)
  -- a console of the old kind meets all but the last record
  pub old_console : map (λ (m : List ℕ). get_or m 0 0) (met (told_by_transfer 0 1)) ≡ 0x82 ∷ []
  -- a transfer keeps the types
  pub kept_types :
      map (λ (r : Row). r.number.type_of_number)
      (take 3 (board_at (fresh ForOldLog 1 0).board (typed_transfer 0 1 ++ (event (facility_record ect_execute 1) ∷ []))).rows)
      ≡ 1 ∷ 0 ∷ 0 ∷ []
