-- The place left is what the shorter histories leave of the place asked for.
use Rattle.std.proofs.Common.{◌≡◌}
use Rattle.short_histories.specs.Code.Finding.{Beyond, found_in}
use Rattle.short_histories.specs.Code.Walking.{shorter}
use Rattle.short_histories.proofs.history_at.Given as goal

abbrev pub invariant-loop-length : goal.invariant-loop-length
invariant-loop-length l = found_in l.fn.place (shorter l.length l.board) ≡ Beyond l.left
