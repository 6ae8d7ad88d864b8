-- A step leaves a board as sound as it was, of however many rows.
use Prim.Native.Nat.{ℕ}
use mathlib.Core.Path.{◌≡◌}
use mathlib.Core.Bool.{true}
use mathlib.Core.List.{List}
use Rattle.octets.specs.Lists.{all}
use Rattle.octets.proofs.Lists.{left, right, both, p_sym}
use Rattle.board.specs.declared.Board.{Board}
use Rattle.board.specs.Changes.{full}
use Rattle.board.specs.Entries.{taken}
use Rattle.board.specs.Soundness.{sound, sound_rows, sound_entries, valid_options, valid_row}
use Rattle.board.proofs.SoundEntries.{of_sound, sound_of, sound_perm}
use Rattle.events.specs.EventRecords.{request}
use Rattle.rules.specs.Checks.{decide, change_of}
use Rattle.rules.specs.Step.{board_after, decision}
use Rattle.rules.proofs.Agreement.{request_in}
use Rattle.rules.proofs.Kept.{kept}
use Rattle.rules.proofs.Rows.{fine, rows_right, view}

-- whatever is decided on a sound board leaves it sound
pub stays_sound : (b : Board) (os : List ℕ) → sound b ≡ true → sound (board_after (decision b os) b) ≡ true
unfolding sound sound_rows board_after decision
stays_sound b os s =
    let r = right (valid_options b.options) (sound_rows b.rows) s in
    let c = change_of (decide b.options b.candidate.0 (full b.rows) (taken b.rows) (request os)) in
    let ok = fine b.options b.candidate.0 (full b.rows) (taken b.rows) (request os) (request_in os) in
    let es = sound_of (taken b.rows) (right (all valid_row b.rows) (sound_entries (taken b.rows)) r) in
    both (left (valid_options b.options) (sound_rows b.rows) s)
    (both (rows_right (full b.rows) c b.rows ok (left (all valid_row b.rows) (sound_entries (taken b.rows)) r))
    (of_sound (sound_perm (p_sym (view c b.rows ok)) (kept b.options b.candidate.0 (full b.rows) (taken b.rows) (request os) es (request_in os)))))
