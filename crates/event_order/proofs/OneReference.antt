-- Two events on one reference give other things in the other order, by computation.
use mathlib.Core.Path.{refl}
use Rattle.board.specs.Changes.{changed_rows, row_after}
use Rattle.board.specs.Soundness.{sound, sound_rows, sound_entries, valid_row}
use Rattle.events.specs.EventRecords.{request}
use Rattle.rules.specs.Checks.{decide}
use Rattle.rules.specs.History.{returns}
use Rattle.rules.specs.Step.{step, step_tested, decision, rows_after, candidate_after, board_after}
use Rattle.event_order.specs.OneReference.{OneReference}

pub one_reference : OneReference
unfolding changed_rows row_after sound sound_rows sound_entries valid_row request decide returns step step_tested decision rows_after candidate_after board_after
one_reference = record { progress_first = refl; hold_first = refl }
