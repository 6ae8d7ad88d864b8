-- What comes of the first option octet, by computation.
use mathlib.Core.Path.{refl}
use Rattle.elements.specs.Elements.{first_element, siblings, whole_elements}
use Rattle.component.specs.Reading.{reading, invoke_reading, identified_reading}
use Rattle.component.specs.Answers.{answer_octets}
use Rattle.board.specs.Soundness.{sound, sound_rows, sound_entries, valid_row}
use Rattle.board.specs.Making.{fresh}
use Rattle.board.specs.Changes.{changed_rows, row_after}
use Rattle.events.specs.EventRecords.{request}
use Rattle.rules.specs.Pairing.{calls_pair}
use Rattle.rules.specs.Serving.{serve}
use Rattle.rules.specs.Checks.{decide}
use Rattle.rules.specs.Replies.{octets}
use Rattle.rules.specs.Step.{step, step_tested, decision, rows_after, candidate_after, board_after, replies}
use Rattle.rules.specs.Situations.{after_records}
use Rattle.rules.specs.ExplicitOnly.{ExplicitOnly, held_and_other}

pub explicit_only : ExplicitOnly
unfolding first_element siblings whole_elements reading invoke_reading identified_reading answer_octets sound sound_rows sound_entries valid_row fresh changed_rows row_after request calls_pair serve decide octets step step_tested decision rows_after candidate_after board_after replies after_records held_and_other
explicit_only = record {
  live_with_0 = refl;
  live_with_2 = refl;
  live_with_2_and_4 = refl;
  live_with_3 = refl;
  old_log_with_0 = refl;
  old_log_with_1 = refl;
  old_log_with_2 = refl;
  old_log_with_1_and_4 = refl;
  old_log_with_3 = refl;
  sound_with_2 = refl;
  unsound_with_3 = refl;
  execute_with_2 = refl;
  execute_american_with_2 = refl;
  link_id_again_with_2 = refl;
  explicit_with_2 = refl;
  explicit_alerting_with_2 = refl;
  execute_with_1 = refl;
  execute_with_0 = refl;
  execute_with_0_and_1 = refl;
}
