-- A step keeps soundness, whatever it was, on every board of 64 rows: who knows that a board is sound knows it of every board after it.
use Prim.Native.Nat.{ℕ}
use mathlib.Core.Path.{◌≡◌, refl, ap, ◌∙◌}
use mathlib.Core.Bool.{Bool, true, false, cond}
use mathlib.Core.List.{List}
use lib.Dec.{ltb}
use lib.ListN.{length}
use Rattle.board.proofs.SoundEntries.{sound_of}
use Rattle.board.specs.Entries.{taken}
use Rattle.board.specs.Soundness.{sound, sound_rows, sound_entries, valid_row, valid_options}
use Rattle.board.specs.declared.Board.{Board}
use Rattle.octets.proofs.Lists.{left, right, p_refl, true_not_false}
use Rattle.octets.specs.Lists.{all}
use Rattle.events.specs.declared.Refusal.TheVariants.{BufferTooSmall, UnsoundBoard}
use Rattle.rules.proofs.Agreement.{Together, sound_together, next}
use Rattle.rules.proofs.Rows.{rows_length}
use Rattle.rules.specs.Book.{Book}
use Rattle.rules.specs.Checks.{change_of}
use Rattle.events.specs.Refusals.{refusal_number}
use Rattle.rules.specs.Step.{Outcome, board_after, decision, refused, step, step_tested, done}

abbrev own_book : Board → Book
own_book b = record { options = b.options; candidate = b.candidate.0; entries = taken b.rows }

own_together : (b : Board) → length b.rows ≡ 64 → sound b ≡ true → Together b (own_book b)
unfolding sound sound_rows
own_together b l s =
    let r = right (valid_options b.options) (sound_rows b.rows) s in
    record {
      options = refl;
      candidate = refl;
      order = p_refl (taken b.rows);
      size = l;
      rows_are = left (all valid_row b.rows) (sound_entries (taken b.rows)) r;
      entries_are = sound_of (taken b.rows) (right (all valid_row b.rows) (sound_entries (taken b.rows)) r);
      options_are = left (valid_options b.options) (sound_rows b.rows) s;
    }

-- a board that is not sound stays, and so does every board's number of rows
module _ (b : Board) (os : List ℕ) (room : ℕ) where
  unsound_stays : sound b ≡ false → (step b os room).board ≡ b
  unfolding step step_tested
  unsound_stays h = go (ltb room 128) (sound b) h
    where
      go : (x y : Bool) → y ≡ false → (cond {A = Outcome} x (refused (refusal_number BufferTooSmall) b) (cond y (done b (decision b os)) (refused (refusal_number UnsoundBoard) b))).board ≡ b
      go true y e = refl
      go false true e = absurd (true_not_false refl e)
      go false false e = refl

  pub as_many_rows : length (step b os room).board.rows ≡ length b.rows
  unfolding step step_tested board_after
  as_many_rows = go (ltb room 128) (sound b)
    where
      go : (x y : Bool) → length (cond {A = Outcome} x (refused (refusal_number BufferTooSmall) b) (cond y (done b (decision b os)) (refused (refusal_number UnsoundBoard) b))).board.rows ≡ length b.rows
      go true y = refl
      go false true = rows_length (change_of (decision b os)) b.rows
      go false false = refl

  pub sound_kept : length b.rows ≡ 64 → sound (step b os room).board ≡ sound b
  sound_kept l = go (sound b) refl
    where
      go : (x : Bool) → sound b ≡ x → sound (step b os room).board ≡ x
      go true h = sound_together (next (own_together b l h) (record { octets = os; room = room })).together
      go false h = ap sound (unsound_stays h) ∙ h
