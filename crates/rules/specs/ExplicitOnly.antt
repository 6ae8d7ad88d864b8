-- What comes of the first option octet: the two openings, and boards with 2, beside document 01's situations (document
-- 02, slip 9).
use Rattle.std.specs.Prelude.{ℕ, ◌≡◌, true, false, List, [], ◌∷◌, pos}
use Rattle.octets.specs.declared.IntegerOctets.TheVariants.{One}
use Rattle.component.specs.declared.Answer.TheVariants as answer
use Rattle.board.specs.declared.Board.{Board}
use Rattle.board.specs.Making.{Opening, Live, ForOldLog, Made, fresh}
use Rattle.board.specs.Soundness.{sound}
use Rattle.rules.specs.Replies.{Reply, Tell, Drop, mark_only, facility, notify}
use Rattle.rules.specs.Replies.{transferred_alerting, transferred_active}
use Rattle.rules.specs.Situations.{progress_record, hold_record, facility_record, ect_execute}
use Rattle.rules.specs.Situations.{explicit_ect_execute, ect_link_id_request, after_records, number_and_octets}
use Rattle.rules.specs.Situations.{answered_by, error_on, link_id_on}
use Rattle.rules.specs.AmericanSituations.{open_with, digit_told, with_options, problem_on}

abbrev pub made_with : ℕ → ℕ → Made
made_with s a = record { returned = 0; board = with_options s a }

-- "an empty board, both options 0" (document 01)
abbrev pub refused_with : ℕ → Made
refused_with n = record { returned = n; board = with_options 0 0 }

-- on the board of an opening: call 1 Active and held, call 2 in state s and Idle, each with a LinkId, 0 and 1, where the
-- service is served
unfoldable pub held_and_other : Opening → ℕ → ℕ → ℕ → Board
held_and_other way first second s =
    after_records (fresh way first second).board
    (open_with 1 0x31 ∷ open_with 2 0x32 ∷ progress_record 1 10 ∷ progress_record 2 s ∷ hold_record 1 1 ∷ hold_record 1 2
    ∷ facility_record ect_link_id_request 1 ∷ facility_record ect_link_id_request 2 ∷ [])

-- call 2, the named one, transferred with call 1, both Active
abbrev pub transferred : List ℕ
transferred =
    answered_by
    (Reply 2 (answer.Result (One 5))
    ∷ Drop 2
    ∷ Drop 1
    ∷ Tell 2 facility transferred_active (digit_told 0x31) 1
    ∷ Tell 1 facility transferred_active (digit_told 0x32) 1
    ∷ [])

pub record ExplicitOnly : Type 0 where
  -- a live board with 0 or 2; with 1 whatever the second octet: theorem `retired` (board)
  pub live_with_0 : fresh Live 0 1 ≡ made_with 0 1
  pub live_with_2 : fresh Live 2 3 ≡ made_with 2 3
  pub live_with_2_and_4 : fresh Live 2 4 ≡ refused_with 5
  pub live_with_3 : fresh Live 3 0 ≡ refused_with 5
  -- "a separate opening for old logs takes 0, 1 or 2"
  pub old_log_with_0 : fresh ForOldLog 0 1 ≡ made_with 0 1
  pub old_log_with_1 : fresh ForOldLog 1 3 ≡ made_with 1 3
  pub old_log_with_2 : fresh ForOldLog 2 0 ≡ made_with 2 0
  pub old_log_with_1_and_4 : fresh ForOldLog 1 4 ≡ refused_with 5
  pub old_log_with_3 : fresh ForOldLog 3 0 ≡ refused_with 5
  -- "a sound board may carry 0, 1 or 2"
  pub sound_with_2 : sound (with_options 2 3) ≡ true
  pub unsound_with_3 : sound (with_options 3 0) ≡ false
  -- "subscribed, explicit only; EctExecute then gets invoke problem 1"
  pub execute_with_2 : number_and_octets (held_and_other Live 2 0 10) (facility_record ect_execute 2) ≡ problem_on 2
  pub execute_american_with_2 : number_and_octets (held_and_other Live 2 2 10) (facility_record ect_execute 2) ≡ problem_on 2
  pub link_id_again_with_2 :
      number_and_octets (held_and_other Live 2 0 10) (facility_record ect_link_id_request 2) ≡ link_id_on 2 (pos 1)
  pub explicit_with_2 :
      number_and_octets (held_and_other Live 2 0 10) (facility_record (explicit_ect_execute 0) 2) ≡ transferred
  pub explicit_alerting_with_2 :
      number_and_octets (held_and_other Live 2 1 4) (facility_record (explicit_ect_execute 1) 1)
      ≡ answered_by
      (Reply 1 (answer.Result (One 5))
      ∷ Drop 1
      ∷ Drop 2
      ∷ Tell 1 facility transferred_alerting (mark_only 0) 1
      ∷ Tell 2 notify transferred_active (digit_told 0x31) 0
      ∷ [])
  -- "EctExecute in them does what it did"
  pub execute_with_1 :
      number_and_octets (held_and_other ForOldLog 1 0 10) (facility_record ect_execute 2) ≡ transferred
  pub execute_with_0 : number_and_octets (held_and_other ForOldLog 0 0 10) (facility_record ect_execute 2) ≡ error_on 2 0
  pub execute_with_0_and_1 : number_and_octets (held_and_other ForOldLog 0 1 4) (facility_record ect_execute 1) ≡ error_on 1 0
