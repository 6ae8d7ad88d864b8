-- The records of a piece that are played so far, one record more, and the pause. Assumes nothing.
use Prim.Native.Nat.{ℕ, ◌+◌, ◌-◌, ◌≤◌, ◌<◌}
use native.Mathlib.Omega.{arith}
use borrow.Author.Tests.{le-leb}
use Rattle.std.specs.Prelude.{Some}
use Rattle.std.proofs.lemmas.Option.{same_Some}
use mathlib.Core.Bool.{Bool, true, false}
use mathlib.Core.Path.{◌≡◌, ◌∙◌, ap, sym, subst}
use mathlib.Core.List.{List, [], ◌++◌, append-nil, append_assoc}
use lib.ListN.{length, take, drop, length-append, length-drop, drop_of_length-le}
use lib.Seq.{drop-drop, take_at, drop_at}
use Rattle.board.specs.declared.Board.{Board}
use Rattle.board.specs.Soundness.{sound}
use Rattle.rules.specs.Step.{step, step_tested}
use Rattle.rules.proofs.SoundKept.{sound_kept, as_many_rows}
use Rattle.ect.specs.Contract.{answer_number}
use Rattle.log_text.specs.Writing.{Fitted}
use Rattle.playing.specs.declared.Pause.{Pause}
use Rattle.playing.specs.declared.Pause.TheVariants.{End}
use Rattle.playing.specs.declared.PlayedRecord.{PlayedRecord}
use Rattle.playing.specs.Log.{outcome_line, stops_reading, largest_number}
use Rattle.playing.specs.Playing.{front_length, longest_line, Playing, pausing, with_record, playing, paused_at, Plays, PlaysRecordAs}
use Rattle.playing.proofs.PlayingLaws.{plays_on, plays_stop}

-- what is written so far lies in the front of the buffer, and playing goes on behind it
pub record SoFar (b₀ : Board) (n₀ : ℕ) (piece : List ℕ) (last : Bool) (out₀ : List ℕ) (b : Board) (n read text : ℕ) (out : List ℕ) : Type 0 where
  pub written : List ℕ
  pub count : text ≡ length written
  pub buffer : out ≡ written ++ drop text out₀
  pub goes_on : playing b₀ n₀ piece last (length out₀) ≡ with_record read written (playing b n (drop read piece) last (length out₀ - text))

two_in_front : (a c : ℕ) (x y : List ℕ) (p : Playing) → with_record a x (with_record c y p) ≡ with_record (a + c) (x ++ y) p
two_in_front a c x y p =
    let e : a + (c + p.read) ≡ a + c + p.read = omega arith in
    rw (e, append_assoc x y p.text)

alone : (read : ℕ) (written : List ℕ) (b : Board) (n : ℕ) (p : Pause) →
    with_record read written (pausing b n p) ≡ record { board = b; number = n; read = read; text = written; pause = p }
alone read written b n p =
    let e : read + 0 ≡ read = omega arith in
    rw (e, append-nil written)

module _ {b₀ b : Board} {n₀ n read text : ℕ} {piece out₀ out : List ℕ} {last : Bool} (s : SoFar b₀ n₀ piece last out₀ b n read text out) where
  pub pauses : {p : Pause} → playing b n (drop read piece) last (length out₀ - text) ≡ pausing b n p → Plays b₀ n₀ piece last out₀ out (paused_at b n read text p)
  pauses {p} e =
      let q = s.goes_on ∙ ap (with_record read s.written) e ∙ alone read s.written b n p in
      record { is = rw (q, s.count); buffer = rw (q, sym s.count) s.buffer }

-- a line behind what is written: the buffer's part from there on holds it, and the rest is kept
line_behind : (out₀ out written line part part' : List ℕ) (text w : ℕ) → text ≡ length written → out ≡ written ++ drop text out₀ → text ≤ length out →
    part ≡ drop text out → length line ≤ length part → Fitted line part part' (Some w) →
    (w ≡ length line) × (take text out ++ (part' ++ drop (length out - text) (drop text out)) ≡ (written ++ line) ++ drop (text + w) out₀)
line_behind out₀ out written line part part' text w c o h s l p =
    let t = le-leb (length line) (length part) l in
    let i : part' ≡ line ++ drop (length line) part = rw t at p.is in
    let k : w ≡ length line = same_Some w (length line) (rw t at p.count) in
    let a : take text out ≡ written = rw o (take_at written (drop text out₀) text (sym c)) in
    let d : drop text out ≡ drop text out₀ = ap (drop text) o ∙ drop_at written (drop text out₀) text (sym c) in
    let e : drop (length out - text) (drop text out) ≡ [] = drop_of_length-le (drop text out) {i = length out - text} (omega (arith, length-drop text out)) in
    (k, rw (a, e, i, s, d, append-nil (line ++ drop (length line) (drop text out₀)), drop-drop (length line) text out₀, k) (sym (append_assoc written line (drop (text + length line) out₀))))

-- ---- a turn: the record in front is judged, and its line lies behind what is written

module _ {b₀ b : Board} {n₀ n read text : ℕ} {piece out₀ out : List ℕ} {last : Bool} (s : SoFar b₀ n₀ piece last out₀ b n read text out)
    (taken : ℕ) (event part part' : List ℕ) (r : PlayedRecord)
    (more : read < length piece) (within : text ≤ length out) (long : length out ≡ length out₀) (room : longest_line ≤ length out - text) (fewer : n < largest_number)
    (front : taken ≡ front_length last (drop read piece)) (some : 0 < taken) (is : event ≡ take taken (drop read piece)) (behind : part ≡ drop text out)
    (t : PlaysRecordAs (step b event 128) (n + 1) event part part' r) where
  abbrev line : List ℕ
  line = outcome_line (n + 1) event (step b event 128)

  placed : (r.written ≡ length line) × (take text out ++ (part' ++ drop (length out - text) (drop text out)) ≡ (s.written ++ line) ++ drop (text + r.written) out₀)
  placed = line_behind out₀ out s.written line part part' text r.written s.count s.buffer within behind (omega (arith, t.short, room, length-drop text out, ap length behind)) t.line

  longer : text + r.written ≡ length (s.written ++ line)
  longer = omega (arith, s.count, placed.0, length-append s.written line)

  left : 0 < length (drop read piece)
  left = omega (arith, length-drop read piece)

  -- one record more, and what `next` says behind it
  in_front : {p : Playing} (next : Playing) → p ≡ with_record taken line next → with_record read s.written p ≡ with_record (read + taken) (s.written ++ line) next
  in_front next e = ap (with_record read s.written) e ∙ two_in_front read taken s.written line next

  pub turns_on : stops_reading (answer_number r.answer) ≡ false →
      SoFar b₀ n₀ piece last out₀ r.board (n + 1) (read + taken) (text + r.written) (take text out ++ (part' ++ drop (length out - text) (drop text out)))
  turns_on f = record {
    written = s.written ++ line;
    count = longer;
    buffer = placed.1;
    goes_on =
        s.goes_on
        ∙ in_front (playing r.board (n + 1) (drop taken (drop read piece)) last (length out₀ - text - length line)) on
        ∙ rw (sym (drop-drop taken read piece), room_left);
  }
    where
      room_left : length out₀ - (text + r.written) ≡ length out₀ - text - length line
      room_left = omega (arith, placed.0)

      on : playing b n (drop read piece) last (length out₀ - text)
          ≡ with_record taken line (playing r.board (n + 1) (drop taken (drop read piece)) last (length out₀ - text - length line))
      on =
          rw (t.board, is, front)
          (plays_on b n (drop read piece) last (length out₀ - text) left (omega (arith, room, long)) (omega (arith, front)) fewer (rw (sym front, sym is, sym t.returned) f))

  pub turns_last : stops_reading (answer_number r.answer) ≡ true →
      Plays b₀ n₀ piece last out₀ (take text out ++ (part' ++ drop (length out - text) (drop text out))) (paused_at r.board (n + 1) (read + taken) (text + r.written) End)
  turns_last f =
      let q = s.goes_on ∙ in_front (pausing r.board (n + 1) End) stops ∙ alone (read + taken) (s.written ++ line) r.board (n + 1) End in
      record { is = rw (q, longer); buffer = rw (q, sym longer) placed.1 }
    where
      stops : playing b n (drop read piece) last (length out₀ - text) ≡ with_record taken line (pausing r.board (n + 1) End)
      stops =
          rw (t.board, is, front)
          (plays_stop b n (drop read piece) last (length out₀ - text) left (omega (arith, room, long)) (omega (arith, front)) fewer (rw (sym front, sym is, sym t.returned) f))

-- ---- the board's soundness is known from before the first record

module _ {tested : Bool} (b : Board) {n : ℕ} (event : List ℕ) {part part' : List ℕ} {r : PlayedRecord} (e : tested ≡ sound b)
    (t : PlaysRecordAs (step_tested tested b event 128) n event part part' r) where
  pub tells_step : PlaysRecordAs (step b event 128) n event part part' r
  unfolding step
  tells_step = subst (λ (x : Bool). PlaysRecordAs (step_tested x b event 128) n event part part' r) e t

  pub stays_sound : length b.rows ≡ 64 → (tested ≡ sound r.board) × (length r.board.rows ≡ 64)
  stays_sound l = (e ∙ sym (ap sound tells_step.board ∙ sound_kept b event 128 l), rw tells_step.board (as_many_rows b event 128 ∙ l))

-- a part by its start and its end
pub part_of : (a k : ℕ) (s : List ℕ) → take (a + k - a) (drop a s) ≡ take k (drop a s)
part_of a k s = let e : a + k - a ≡ k = omega arith in ap (λ (n : ℕ). take n (drop a s)) e
