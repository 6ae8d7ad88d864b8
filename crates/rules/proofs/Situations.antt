-- The situations of document 01 and its worked log, by computation.
use mathlib.Core.Path.{refl}
use Rattle.elements.specs.Elements.{first_element, siblings, whole_elements}
use Rattle.component.specs.Reading.{reading, invoke_reading, identified_reading}
use Rattle.component.specs.Answers.{answer_octets}
use Rattle.board.specs.Soundness.{sound, sound_rows, sound_entries, valid_row}
use Rattle.board.specs.Counts.{counts}
use Rattle.board.specs.Making.{fresh}
use Rattle.board.specs.Changes.{changed_rows, row_after}
use Rattle.events.specs.EventRecords.{request}
use Rattle.rules.specs.Pairing.{calls_pair}
use Rattle.rules.specs.Serving.{serve}
use Rattle.rules.specs.Checks.{decide}
use Rattle.rules.specs.Replies.{octets}
use Rattle.rules.specs.Step.{step, step_tested, decision, rows_after, candidate_after, board_after, replies}
use Rattle.rules.specs.Situations.{Situations, WorkedLog, after_records, up_to, held_and_idle, sixteen_live, log}

pub situations : Situations
unfolding first_element siblings whole_elements reading invoke_reading identified_reading answer_octets sound sound_rows sound_entries valid_row counts fresh changed_rows row_after request calls_pair serve decide octets step step_tested decision rows_after candidate_after board_after replies after_records up_to held_and_idle sixteen_live
situations = record {
  active_held_with_active_idle = refl;
  both_held = refl;
  active_held_with_delivered_idle = refl;
  hold_request_with_idle = refl;
  link_127 = refl;
  link_128 = refl;
  link_minus_128 = refl;
  link_minus_129 = refl;
  candidate_32767 = refl;
  candidate_wraps = refl;
  seventeenth_call = refl;
  one_of_the_16 = refl;
  explicit_with_own_link = refl;
  unsubscribed_and_link_unknown = refl;
  execute_on_the_held_one = refl;
  execute_on_an_idle_one = refl;
  buffer_127 = refl;
  buffer_128 = refl;
  counts_of_a_fresh_board = refl;
  counts_after_a_transfer = refl;
}

pub worked_log : WorkedLog
unfolding first_element siblings whole_elements reading invoke_reading identified_reading answer_octets sound sound_rows sound_entries valid_row counts fresh changed_rows row_after request calls_pair serve decide octets step step_tested decision rows_after candidate_after board_after replies after_records log
worked_log = record { lines = refl; end = refl }
