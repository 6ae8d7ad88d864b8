-- What `tell` makes of a record, and what one record more makes of a piece. Assumes nothing.
use Prim.Native.Nat.{ℕ, zero, suc, ◌+◌, ◌-◌, ◌^◌, ◌≤◌, ◌<◌}
use native.Mathlib.Omega.{arith}
use borrow.Author.Tests.{le-leb, lt-leb, le-ltb, lt-ltb, eq-eqb, ne_eqb, eqb-true, eqb-false}
use Rattle.std.specs.Prelude.{Option, None, Some, IsSome}
use Rattle.std.proofs.lemmas.Option.{none-some, same_Some}
use lib.Dec.{eqb, leb, ltb}
use mathlib.Core.Bool.{Bool, true, false, cond}
use mathlib.Core.Path.{◌≡◌, ◌∙◌, ap, refl, sym}
use mathlib.Core.List.{List, [], ◌∷◌}
use lib.ListN.{length, get_or, take, drop, length-append, length-drop}
use Rattle.board.specs.declared.Board.{Board}
use Rattle.rules.specs.Replies.{octets}
use Rattle.rules.specs.Step.{Outcome}
use Rattle.ect.proofs.CallHistory.{replies_are}
use Rattle.ect.specs.Contract.{OutcomeOf, answer_number, answer_count}
use Rattle.ect.specs.declared.Stepped.{Stepped}
use Rattle.log_text.proofs.TextLaws.{line_short}
use Rattle.log_text.specs.Lines.{record_line}
use Rattle.log_text.specs.Writing.{Fitted}
use Rattle.playing.specs.declared.Pause.TheVariants.{MoreInput, FullOutput, End}
use Rattle.playing.specs.Log.{outcome_line, judged, stops_reading, largest_number}
use Rattle.playing.specs.Playing.{front_length, front, piece_record, piece_line, longest_line, pause_at_end, Playing, pausing, with_record, play_from, playing, PlaysRecordAs}

module _ {o : Outcome} {before after : List ℕ} {r : Stepped} (s : OutcomeOf o before r after) where
  -- the octets written lie in the buffer
  pub count_within : length after ≡ length before → answer_count r.answer ≤ length after
  count_within e =
      let p = length-append (octets o.replies) (drop (length (octets o.replies)) before) in
      let q = length-drop (length (octets o.replies)) before in
      omega (arith, s.count, ap length s.buffer)

  pub told : {number returned count written : ℕ} {event out out' : List ℕ} → returned ≡ answer_number r.answer → count ≡ answer_count r.answer
      → Fitted (record_line number (get_or event 0 0) returned (take count after)) out out' (Some written)
      → length (outcome_line number event o) ≤ longest_line
      → PlaysRecordAs o number event out out' (record { board = r.board; answer = r.answer; written = written })
  told e f p h =
      let g = e ∙ s.answer in
      record {
        board = s.board;
        returned = s.answer;
        line = rw (g, f, replies_are s) at p;
        short = h;
      }

-- the line of a record is short
pub outcome_short : (o : Outcome) (number : ℕ) (event : List ℕ) → number < 18446744073709551616 → get_or event 0 0 < 256
    → o.returned < 256 → length (octets o.replies) ≤ 128 → length (outcome_line number event o) ≤ longest_line
outcome_short o number event h k r l = line_short number (get_or event 0 0) o.returned (octets o.replies) h k r l

-- the line of a record is written wherever the longest fits
pub line_written : {number kind returned : ℕ} (s : List ℕ) {before after : List ℕ} {r : Option ℕ} → Fitted (record_line number kind returned s) before after r
    → number < 2 ^ 64 → kind < 256 → returned < 256 → length s ≤ 128 → longest_line ≤ length before → IsSome r
line_written {number} {kind} {returned} s {before} p h k l m room =
    rw (p.count, le-leb (length (record_line number kind returned s)) (length before) (omega (arith, room, line_short number kind returned s h k l m)))

-- ---- the record in front of a piece

module _ (last : Bool) (piece : List ℕ) where
  -- a piece of the record's length, or of its length where it is cut
  pub front_none : None ≡ front last piece → front_length last piece ≡ 0
  front_none = go (eqb (front_length last piece) 0) refl
    where
      go : (b : Bool) → eqb (front_length last piece) 0 ≡ b → None ≡ cond b None (Some (front_length last piece)) → front_length last piece ≡ 0
      go true h e = eqb-true (front_length last piece) 0 h
      go false h e = absurd (none-some (front_length last piece) e)

  pub front_some : {n : ℕ} → Some n ≡ front last piece → (n ≡ front_length last piece) × (0 < n)
  front_some {n} = go (eqb (front_length last piece) 0) refl
    where
      go : (b : Bool) → eqb (front_length last piece) 0 ≡ b → Some n ≡ cond b None (Some (front_length last piece)) → (n ≡ front_length last piece) × (0 < n)
      go true h e = absurd (none-some n (sym e))
      go false h e =
          let k = eqb-false (front_length last piece) 0 h in
          let q = same_Some n (front_length last piece) e in
          (q, omega (arith, q, k))

-- ---- one record of a piece, with what comes behind it

abbrev one_record : Board → ℕ → List ℕ → Bool → ℕ → Playing → Playing
one_record b n piece last room next =
    cond (ltb room longest_line) (pausing b n FullOutput)
    (cond (eqb (front_length last piece) 0) (pausing b n MoreInput)
    (cond (leb largest_number n) (pausing b n End)
    (with_record (front_length last piece) (piece_line b n last piece)
    (cond (stops_reading (judged b (piece_record last piece)).returned)
    (pausing (judged b (piece_record last piece)).board (n + 1) End)
    next))))

abbrev behind_record : ℕ → Board → ℕ → List ℕ → Bool → ℕ → Playing
behind_record k b n piece last room =
    play_from k (judged b (piece_record last piece)).board (n + 1) (drop (front_length last piece) piece) last (room - length (piece_line b n last piece))

-- a record that takes some octets leaves fewer
pub some_taken : (last : Bool) (o : ℕ) (os : List ℕ) → eqb (front_length last (o ∷ os)) 0 ≡ false → length (drop (front_length last (o ∷ os)) (o ∷ os)) ≤ length os
some_taken last o os f = let k = eqb-false (front_length last (o ∷ os)) 0 f in omega (arith, length-drop (front_length last (o ∷ os)) (o ∷ os))

-- what comes behind matters only where the record takes some octets
module _ (b : Board) (n : ℕ) (o : ℕ) (os : List ℕ) (last : Bool) (room : ℕ) {p q : Playing}
    (e : length (drop (front_length last (o ∷ os)) (o ∷ os)) ≤ length os → p ≡ q) where
  same_behind : one_record b n (o ∷ os) last room p ≡ one_record b n (o ∷ os) last room q
  same_behind = go (eqb (front_length last (o ∷ os)) 0) refl
    where
      rest : Playing → Playing
      rest next =
          cond (leb largest_number n) (pausing b n End)
          (with_record (front_length last (o ∷ os)) (piece_line b n last (o ∷ os))
          (cond (stops_reading (judged b (piece_record last (o ∷ os))).returned)
          (pausing (judged b (piece_record last (o ∷ os))).board (n + 1) End)
          next))

      go : (x : Bool) → eqb (front_length last (o ∷ os)) 0 ≡ x →
          cond {A = Playing} (ltb room longest_line) (pausing b n FullOutput) (cond x (pausing b n MoreInput) (rest p))
          ≡ cond (ltb room longest_line) (pausing b n FullOutput) (cond x (pausing b n MoreInput) (rest q))
      go true f = refl
      go false f = ap (λ (z : Playing). cond {A = Playing} (ltb room longest_line) (pausing b n FullOutput) (rest z)) (e (some_taken last o os f))

-- the count of `play_from` does not matter where it is large enough
pub enough : (k j : ℕ) (b : Board) (n : ℕ) (piece : List ℕ) (last : Bool) (room : ℕ) → length piece ≤ k → length piece ≤ j
    → play_from k b n piece last room ≡ play_from j b n piece last room
unfolding play_from
enough zero zero b n piece last room h g = refl
enough zero (suc j) b n [] last room h g = refl
enough zero (suc j) b n (o ∷ os) last room h g = absurd (omega (arith, h))
enough (suc k) zero b n [] last room h g = refl
enough (suc k) zero b n (o ∷ os) last room h g = absurd (omega (arith, g))
enough (suc k) (suc j) b n [] last room h g = refl
enough (suc k) (suc j) b n (o ∷ os) last room h g =
    same_behind b n o os last room
    (λ t. enough k j (judged b (piece_record last (o ∷ os))).board (n + 1) (drop (front_length last (o ∷ os)) (o ∷ os)) last (room - length (piece_line b n last (o ∷ os))) (omega (arith, h)) (omega (arith, g)))

-- ---- what `playing` is, by what is in front of the piece

module _ (b : Board) (n : ℕ) (piece : List ℕ) (last : Bool) (room : ℕ) where
  abbrev Now : Playing → Type 0
  Now p = playing b n piece last room ≡ p

  pub plays_end : length piece ≡ 0 → Now (pausing b n (pause_at_end last))
  unfolding play_from
  plays_end h = rw h

  abbrev next : Playing
  next = playing (judged b (piece_record last piece)).board (n + 1) (drop (front_length last piece) piece) last (room - length (piece_line b n last piece))

one_record_lem : (b : Board) (n : ℕ) (piece : List ℕ) (last : Bool) (room : ℕ) → 0 < length piece →
    playing b n piece last room ≡ one_record b n piece last room (behind_record (length (drop (front_length last piece) piece)) b n piece last room)
unfolding play_from
one_record_lem b n [] last room h = absurd (omega (arith, h))
one_record_lem b n (o ∷ os) last room h =
    same_behind b n o os last room
    (λ t. enough (length os) (length (drop (front_length last (o ∷ os)) (o ∷ os))) (judged b (piece_record last (o ∷ os))).board (n + 1) (drop (front_length last (o ∷ os)) (o ∷ os)) last (room - length (piece_line b n last (o ∷ os))) t (omega arith))

module _ (b : Board) (n : ℕ) (piece : List ℕ) (last : Bool) (room : ℕ) (some : 0 < length piece) where
  pub plays_full : room < longest_line → Now b n piece last room (pausing b n FullOutput)
  plays_full h = one_record_lem b n piece last room some ∙ rw (lt-ltb room longest_line h)

  module _ (enough-room : longest_line ≤ room) where
    pub plays_part : front_length last piece ≡ 0 → Now b n piece last room (pausing b n MoreInput)
    plays_part h = one_record_lem b n piece last room some ∙ rw (le-ltb room longest_line enough-room, eq-eqb (front_length last piece) 0 h)

    module _ (whole : 0 < front_length last piece) where
      not_none : eqb (front_length last piece) 0 ≡ false
      not_none = ne_eqb (front_length last piece) 0 (λ e. omega (arith, e))

      pub plays_most : largest_number ≤ n → Now b n piece last room (pausing b n End)
      plays_most h = one_record_lem b n piece last room some ∙ rw (le-ltb room longest_line enough-room, not_none, le-leb largest_number n h)

      module _ (fewer : n < largest_number) where
        pub plays_stop : stops_reading (judged b (piece_record last piece)).returned ≡ true →
            Now b n piece last room (with_record (front_length last piece) (piece_line b n last piece) (pausing (judged b (piece_record last piece)).board (n + 1) End))
        plays_stop h = one_record_lem b n piece last room some ∙ rw (le-ltb room longest_line enough-room, not_none, lt-leb largest_number n fewer, h)

        pub plays_on : stops_reading (judged b (piece_record last piece)).returned ≡ false →
            Now b n piece last room (with_record (front_length last piece) (piece_line b n last piece) (next b n piece last room))
        plays_on h = one_record_lem b n piece last room some ∙ rw (le-ltb room longest_line enough-room, not_none, lt-leb largest_number n fewer, h)
