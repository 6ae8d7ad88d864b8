-- What `play` has read lies in the piece, and what it has written in the buffer. Assumes nothing.
use Prim.Native.Nat.{ℕ, zero, suc, ◌+◌, ◌-◌, ◌≤◌}
use native.Mathlib.Omega.{arith}
use mathlib.Core.Bool.{Bool, true, false, cond}
use mathlib.Core.Path.{◌≡◌, ap, refl}
use mathlib.Core.List.{List, [], ◌∷◌}
use lib.Dec.{eqb, leb, ltb}
use lib.ListN.{length, drop, get_or, length-append, length-drop}
use borrow.Author.Tests.{leb-true}
use Rattle.board.specs.declared.Board.{Board}
use Rattle.events.specs.Records.{record_length}
use Rattle.playing.specs.declared.Pause.TheVariants.{MoreInput, FullOutput, End}
use Rattle.playing.specs.declared.Played.{Played}
use Rattle.playing.specs.Log.{judged, stops_reading, largest_number}
use Rattle.playing.specs.Playing.{front_length, piece_record, piece_line, longest_line, Playing, pausing, with_record, play_from, playing, Plays}

front_within : (last : Bool) (piece : List ℕ) → front_length last piece ≤ length piece
front_within last piece = go (leb (record_length (get_or piece 0 0)) (length piece)) last refl
  where
    go : (t l : Bool) → leb (record_length (get_or piece 0 0)) (length piece) ≡ t → cond t (record_length (get_or piece 0 0)) (cond l (length piece) 0) ≤ length piece
    go true l e = leb-true (record_length (get_or piece 0 0)) (length piece) e
    go false true e = omega arith
    go false false e = omega arith

from_within : (k : ℕ) (b : Board) (n : ℕ) (piece : List ℕ) (last : Bool) (room : ℕ) → (play_from k b n piece last room).read ≤ length piece
unfolding play_from
from_within zero b n piece last room = omega arith
from_within (suc k) b n [] last room = omega arith
from_within (suc k) b n (o ∷ os) last room =
    go (ltb room longest_line) (eqb (front_length last (o ∷ os)) 0) (leb largest_number n) (stops_reading (judged b (piece_record last (o ∷ os))).returned) _
    (from_within k (judged b (piece_record last (o ∷ os))).board (n + 1) (drop (front_length last (o ∷ os)) (o ∷ os)) last (room - length (piece_line b n last (o ∷ os))))
  where
    go : (w x y s : Bool) (next : Playing) → next.read ≤ length (drop (front_length last (o ∷ os)) (o ∷ os)) →
        (cond {A = Playing} w (pausing b n FullOutput)
        (cond x (pausing b n MoreInput)
        (cond y (pausing b n End)
        (with_record (front_length last (o ∷ os)) (piece_line b n last (o ∷ os)) (cond s (pausing (judged b (piece_record last (o ∷ os))).board (n + 1) End) next))))).read ≤ length (o ∷ os)
    go true x y s next h = omega arith
    go false true y s next h = omega arith
    go false false true s next h = omega arith
    go false false false true next h = omega (arith, front_within last (o ∷ os))
    go false false false false next h = omega (arith, h, front_within last (o ∷ os), length-drop (front_length last (o ∷ os)) (o ∷ os))

module _ (b : Board) (n : ℕ) (piece : List ℕ) (last : Bool) (before after : List ℕ) (r : Played) (p : Plays b n piece last before after r) where
  pub read_within : r.read ≤ length piece
  read_within = rw p.is (from_within (length piece) b n piece last (length before))

  pub written_within : length after ≡ length before → r.written ≤ length after
  written_within e =
      let t = (playing b n piece last (length before)).text in
      rw p.is (omega (arith, e, ap length p.buffer, length-append t (drop (length t) before), length-drop (length t) before))
