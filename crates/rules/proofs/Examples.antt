-- The lists beside the whole-history theorem, by computation.
use mathlib.Core.Path.{refl}
use Rattle.elements.specs.Elements.{first_element, siblings, whole_elements}
use Rattle.component.specs.Reading.{reading, invoke_reading, identified_reading}
use Rattle.component.specs.Arguments.{behind_operation, identified_in, arguments_in}
use Rattle.subaddresses.specs.SubaddressTransfer.{is_subaddress_transfer}
use Rattle.private_transfers.specs.EctInform.{inform_in}
use Rattle.board.specs.Soundness.{sound, sound_rows, sound_entries, valid_row}
use Rattle.board.specs.Making.{fresh}
use Rattle.board.specs.Changes.{changed_rows, row_after}
use Rattle.events.specs.EventRecords.{request}
use Rattle.rules.specs.Pairing.{calls_pair}
use Rattle.rules.specs.Serving.{serve}
use Rattle.rules.specs.Checks.{decide}
use Rattle.rules.specs.Replies.{octets}
use Rattle.rules.specs.Step.{step, step_tested, decision, rows_after, candidate_after, board_after, replies}
use Rattle.rules.specs.Book.{fresh_book, book_rules, book_decision, book_after, book_step, entries_after, candidate_moves}
use Rattle.rules.specs.History.{board_at, book_at, history, returns}
use Rattle.rules.specs.Examples.{HistoryExamples, PassingExamples, InformingExamples, TypedExamples}
use Rattle.rules.specs.OldConsole.{met_from}
use Rattle.component.specs.Answers.{answer_octets}

pub history_examples : HistoryExamples
unfolding first_element siblings whole_elements reading invoke_reading identified_reading sound sound_rows sound_entries valid_row fresh changed_rows row_after request calls_pair serve decide step step_tested decision rows_after candidate_after board_after replies fresh_book book_rules book_decision book_after book_step entries_after candidate_moves board_at book_at history returns
history_examples = record {
  returned = refl;
  history_is = refl;
  transferred = refl;
  transferred_book = refl;
  not_transferred = refl;
  calls_stay = refl;
  answered = refl;
  released = refl;
  released_book = refl;
}

pub passing_examples : PassingExamples
unfolding first_element siblings whole_elements reading invoke_reading identified_reading behind_operation identified_in arguments_in is_subaddress_transfer sound sound_rows sound_entries valid_row fresh changed_rows row_after request calls_pair serve decide step step_tested decision rows_after candidate_after board_after replies octets board_at returns
passing_examples = record {
  passed_on = refl;
  passed_on_octets = refl;
  passed_on_board = refl;
  not_passed_on = refl;
}

pub informing_examples : InformingExamples
unfolding first_element siblings whole_elements behind_operation identified_in arguments_in inform_in sound sound_rows sound_entries valid_row fresh changed_rows row_after request decide step step_tested decision rows_after candidate_after board_after replies octets board_at returns
informing_examples = record {
  informed_numbers = refl;
  active_octets = refl;
  alerting_octets = refl;
  informed_board = refl;
}

pub typed_examples : TypedExamples
unfolding first_element siblings whole_elements reading invoke_reading identified_reading behind_operation sound sound_rows sound_entries valid_row fresh changed_rows row_after request calls_pair serve decide step step_tested decision rows_after candidate_after board_after replies octets board_at returns met_from answer_octets
typed_examples = record {
  same_board = refl;
  types = refl;
  no_digits = refl;
  international = refl;
  unknown_type = refl;
  withheld = refl;
  old_console = refl;
  kept_types = refl;
}
