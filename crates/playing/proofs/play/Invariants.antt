use Prim.Native.Nat.{◌-◌, ◌≤◌}
use mathlib.Core.Path.{◌≡◌}
use lib.ListN.{length}
use Rattle.board.specs.Soundness.{sound}
use Rattle.playing.specs.Playing.{pause_at_end}
use Rattle.playing.proofs.TurnLaws.{SoFar}
use Rattle.playing.proofs.play.Given as goal

abbrev pub invariant-loop-so_far : goal.invariant-loop-so_far
invariant-loop-so_far l =
    let from = l.initial.so_far in
    let at = l.so_far in
    (at.read ≤ length l.piece)
    × (at.written ≤ length l.initial.out)
    × (length l.out ≡ length l.initial.out)
    × (l.is_sound ≡ sound at.board)
    × (length at.board.rows ≡ 64)
    × SoFar from.board from.number l.piece l.is_last l.initial.out at.board at.number at.read at.written l.out
    × (at.pause ≡ pause_at_end l.is_last)

abbrev pub decreases-loop-so_far : goal.decreases-loop-so_far
decreases-loop-so_far l = length l.piece - l.so_far.read
