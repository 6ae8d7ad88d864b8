-- The list of the short histories, computed.
use mathlib.Core.Path.{refl}
use Rattle.board.specs.Soundness.{sound, sound_rows, sound_entries, valid_row}
use Rattle.board.specs.Making.{fresh}
use Rattle.board.specs.Changes.{changed_rows, row_after}
use Rattle.events.specs.EventRecords.{request}
use Rattle.rules.specs.Checks.{decide}
use Rattle.rules.specs.Step.{step, step_tested, decision, rows_after, candidate_after, board_after, replies}
use Rattle.short_histories.specs.Sequences.{of_length, up_to}
use Rattle.short_histories.specs.Histories.{accepts_number, after_number, first_board, histories}
use Rattle.short_histories.specs.Lengths.{Lengths}

pub lengths : Lengths
unfolding sound sound_rows sound_entries valid_row fresh changed_rows row_after request decide step step_tested decision rows_after candidate_after board_after replies of_length up_to accepts_number after_number first_board histories
lengths = record {
  records = refl;
  empty = refl;
  of_1 = refl;
  of_2 = refl;
  of_3 = refl;
  of_4 = refl;
  in_all = refl;
}
