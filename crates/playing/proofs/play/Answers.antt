use Prim.Native.Nat.{ℕ, ◌+◌, ◌-◌, ◌≤◌, ◌<◌}
use native.Mathlib.Omega.{arith}
use mathlib.Core.Path.{◌≡◌, sym, ap, ◌∙◌}
use mathlib.Core.List.{List}
use Rattle.playing.specs.declared.Played.{Played}
use lib.ListN.{length, take, drop, length-drop}
use borrow.Author.Rules.{rules}
use Rattle.octets.proofs.Places.{rest}
use Rattle.playing.specs.Log.{largest_number}
use Rattle.playing.specs.Playing.{front_length, front, longest_line}
use Rattle.playing.proofs.PlayingLaws.{plays_full, plays_part, plays_most, plays_end, front_none, front_some}
use Rattle.playing.proofs.TurnLaws.{pauses, turns_on, turns_last, tells_step, stays_sound, part_of}
use Rattle.playing.proofs.play.Goals as goal
use Rattle.playing.proofs.play.Goals.{After-stops}

abbrev piece_of : After-stops → List ℕ
piece_of c = c.args.piece.now

abbrev out_of : After-stops → List ℕ
out_of c = c.loop-so_far.out

abbrev so_far_of : After-stops → Played
so_far_of c = c.loop-so_far.so_far

abbrev front_of : After-stops → ℕ
front_of c = c.in-Some.taken

front_is : (c : After-stops) → (front_of c ≡ front_length c.args.is_last (drop (so_far_of c).read (piece_of c))) × (0 < front_of c)
front_is c = front_some c.args.is_last (drop (so_far_of c).read (piece_of c)) (c.in-Some.ensures.is ∙ ap (front c.args.is_last) (rest (so_far_of c).read (piece_of c)))

more : (c : After-stops) → (so_far_of c).read < length (piece_of c)
more c = c.loop-so_far-test.true

room_left : (c : After-stops) → longest_line ≤ length (out_of c) - (so_far_of c).written
room_left c = omega (arith, c.if-out-so_far-lt-LONGEST_LINE.false)

fewer : (c : After-stops) → (so_far_of c).number < largest_number
fewer c = omega (arith, c.if-so_far-ge18446744073709551615.false)

within : (c : After-stops) → (so_far_of c).read + front_of c ≤ length (piece_of c)
within c =
    let at = so_far_of c in
    let q : front_of c ≤ length (take (length (piece_of c) - at.read) (drop at.read (piece_of c))) = c.in-Some.ensures.within in
    omega (arith, q, ap length (rest at.read (piece_of c)), length-drop at.read (piece_of c))

pub returns-then-out-so_far-lt-LONGEST_LINE : goal.returns-then-out-so_far-lt-LONGEST_LINE
returns-then-out-so_far-lt-LONGEST_LINE c =
    let v = c.args in
    let l = c.loop-so_far in
    let at = l.so_far in
    let some = length-drop at.read v.piece.now in
    rw c.paused.ensures (pauses l.invariant.5
    (plays_full at.board at.number (drop at.read v.piece.now) v.is_last (length v.out.now - at.written) (omega (arith, some)) (omega (arith, c.if-out-so_far-lt-LONGEST_LINE.true, l.invariant.2))))

pub returns-in_default : goal.returns-in_default
returns-in_default c =
    let v = c.args in
    let l = c.loop-so_far in
    let at = l.so_far in
    let some = length-drop at.read v.piece.now in
    rw c.paused-in_default.ensures (pauses l.invariant.5
    (plays_part at.board at.number (drop at.read v.piece.now) v.is_last (length v.out.now - at.written) (omega (arith, some))
    (omega (arith, c.if-out-so_far-lt-LONGEST_LINE.false, l.invariant.2))
    (front_none v.is_last (drop at.read v.piece.now) (c.in_default.ensures.is ∙ ap (front v.is_last) (rest at.read v.piece.now)))))

pub returns-then-so_far-ge18446744073709551615 : goal.returns-then-so_far-ge18446744073709551615
returns-then-so_far-ge18446744073709551615 c =
    let v = c.args in
    let l = c.loop-so_far in
    let at = l.so_far in
    let some = length-drop at.read v.piece.now in
    let f = front_some v.is_last (drop at.read v.piece.now) (c.in-Some.ensures.is ∙ ap (front v.is_last) (rest at.read v.piece.now)) in
    rw c.paused-then-so_far-ge18446744073709551615.ensures (pauses l.invariant.5
    (plays_most at.board at.number (drop at.read v.piece.now) v.is_last (length v.out.now - at.written) (omega (arith, some))
    (omega (arith, c.if-out-so_far-lt-LONGEST_LINE.false, l.invariant.2)) (omega (arith, f.0, f.1)) c.if-so_far-ge18446744073709551615.true))

pub returns-then-stops : goal.returns-then-stops
returns-then-stops c =
    let v = c.args in
    let l = c.loop-so_far in
    let at = l.so_far in
    let f = c.in-Some.taken in
    let t = c.play_record-played in
    let k = (goal.at.returns-then-stops c).After-stops in
    let event = take (at.read + f - at.read) (drop at.read v.piece.now) in
    let s = tells_step at.board event l.invariant.3 t.ensures in
    rw c.paused-then-stops.ensures (turns_last l.invariant.5 f event (take (length l.out - at.written) (drop at.written l.out)) _ t.result
    (more k) (omega (arith, l.invariant.1, l.invariant.2)) l.invariant.2 (room_left k) (fewer k) (front_is k).0 (front_is k).1
    (part_of at.read f v.piece.now) (rest at.written l.out) s (sym c.stops.ensures ∙ c.if-stops.true))

pub loop-so_far-preserved : goal.loop-so_far-preserved
loop-so_far-preserved c =
    let v = c.args in
    let l = c.loop-so_far in
    let at = l.so_far in
    let f = c.in-Some.taken in
    let t = c.play_record-played in
    let k = (goal.at.loop-so_far-preserved c).After-stops in
    let event = take (at.read + f - at.read) (drop at.read v.piece.now) in
    let s = tells_step at.board event l.invariant.3 t.ensures in
    let kept = stays_sound at.board event l.invariant.3 t.ensures l.invariant.4 in (
      within k,
      search rules,
      search rules,
      kept.0,
      kept.1,
      turns_on l.invariant.5 f event (take (length l.out - at.written) (drop at.written l.out)) _ t.result
          (more k) (omega (arith, l.invariant.1, l.invariant.2)) l.invariant.2 (room_left k) (fewer k) (front_is k).0 (front_is k).1
          (part_of at.read f v.piece.now) (rest at.written l.out) s (sym c.stops.ensures ∙ c.if-stops.false),
      l.invariant.6,
    )

pub returns : goal.returns
returns c =
    let v = c.args in
    let l = c.loop-so_far in
    let at = l.so_far in
    rw l.invariant.6 (pauses l.invariant.5 (plays_end at.board at.number (drop at.read v.piece.now) v.is_last (length v.out.now - at.written) (omega (arith, length-drop at.read v.piece.now))))
