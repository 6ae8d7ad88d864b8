-- The pins, lines and names of the examples, by computation.
use mathlib.Core.Path.{refl}
use Rattle.octets.specs.Lists.{place_from}
use Rattle.board.specs.Soundness.{sound, sound_rows, sound_entries, valid_row}
use Rattle.board.specs.Changes.{changed_rows, row_after}
use Rattle.events.specs.EventRecords.{request}
use Rattle.rules.specs.Checks.{decide}
use Rattle.rules.specs.Step.{step, step_tested, decision, rows_after, candidate_after, board_after, replies}
use Rattle.attendant_console.specs.Screen.{shown_on, pin, lines_after}
use Rattle.attendant_console.specs.Name.{name}
use Rattle.attendant_console.specs.Examples.{ScreenExamples, NameExamples}

pub screen_examples : ScreenExamples
unfolding place_from sound sound_rows sound_entries valid_row changed_rows row_after request decide step step_tested decision rows_after candidate_after board_after replies shown_on pin lines_after
screen_examples = record {
  alerting = refl;
  lowest = refl;
  not_sound = refl;
  not_on_board = refl;
  already_pinned = refl;
  all_used = refl;
  answered = refl;
  twice = refl;
  released = refl;
  refused = refl;
}

pub name_examples : NameExamples
unfolding name
name_examples = record {
  before_comma = refl;
  first_comma = refl;
  no_comma = refl;
  empty_part = refl;
  empty_line = refl;
  blank = refl;
  nothing = refl;
}
