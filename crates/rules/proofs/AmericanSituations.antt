-- The situations of American rules, by computation.
use mathlib.Core.Path.{refl}
use Rattle.elements.specs.Elements.{first_element, siblings, whole_elements}
use Rattle.component.specs.Reading.{reading, invoke_reading, identified_reading}
use Rattle.component.specs.Answers.{answer_octets}
use Rattle.board.specs.Soundness.{sound, sound_rows, sound_entries, valid_row}
use Rattle.board.specs.Making.{fresh}
use Rattle.board.specs.Changes.{changed_rows, row_after}
use Rattle.events.specs.EventRecords.{request}
use Rattle.rules.specs.Pairing.{calls_pair}
use Rattle.rules.specs.Serving.{serve}
use Rattle.rules.specs.Checks.{decide}
use Rattle.rules.specs.Replies.{octets}
use Rattle.rules.specs.Step.{step, step_tested, decision, rows_after, candidate_after, board_after, replies}
use Rattle.rules.specs.Situations.{after_records}
use Rattle.rules.specs.AmericanSituations.{AmericanSituations, neither_held, unsubscribed}

pub american_situations : AmericanSituations
unfolding first_element siblings whole_elements reading invoke_reading identified_reading answer_octets sound sound_rows sound_entries valid_row fresh changed_rows row_after request calls_pair serve decide octets step step_tested decision rows_after candidate_after board_after replies after_records neither_held unsubscribed
american_situations = record {
  both_idle = refl;
  one_held = refl;
  both_held = refl;
  hold_request_with_idle = refl;
  retrieve_request_with_idle = refl;
  active_idle_with_delivered_idle = refl;
  active_held_with_delivered_idle = refl;
  active_idle_with_delivered_held = refl;
  explicit_with_own_link = refl;
  transferred_neither_held = refl;
  execute_subscribed = refl;
  execute_unsubscribed = refl;
  request_unsubscribed = refl;
  explicit_unsubscribed = refl;
  alerting_not_allowed = refl;
  active_named = refl;
  alerting_named = refl;
  answered = refl;
  made_with_3 = refl;
  refused_with_4 = refl;
  board_with_4 = refl;
}
