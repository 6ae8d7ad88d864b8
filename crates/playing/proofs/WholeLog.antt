-- Pieces of a log, of any size, give the text of the whole log: of whatever `play` returns by its contract. Assumes nothing.
use Prim.{tt}
use Prim.Native.Nat.{ℕ, zero, suc, ◌+◌, ◌-◌, ◌≤◌}
use native.Mathlib.Omega.{arith}
use borrow.Author.Tests.{leb-true, leb-false, eqb-false}
use mathlib.Core.Bool.{Bool, true, false, cond}
use mathlib.Core.Path.{◌≡◌, ◌∙◌, ap, refl, sym}
use mathlib.Core.List.{List, [], ◌∷◌, ◌++◌, append-nil, append_assoc}
use lib.Dec.{eqb, leb, ltb}
use lib.ListN.{length, take, drop, drop_of_length-le}
use lib.Seq.{drop-drop, take_all, take-length, drop-length, take-append-le, drop-append-le, take_at}
use base.Fml.{GName}
use contract.Lifetimes.{Lfts}
use Rattle.board.specs.declared.Board.{Board}
use Rattle.events.specs.Records.{record_length, front_record, behind, records}
use Rattle.events.proofs.LogRecords.{no_records, first_record}
use Rattle.playing.specs.declared.Pause.{Pause}
use Rattle.playing.specs.declared.Pause.TheVariants.{MoreInput, FullOutput, End}
use Rattle.playing.specs.declared.Played.{Played}
use Rattle.playing.specs.Log.{judged, stops_reading, largest_number, LogEnd, ended, with_text, records_end, log_end}
use Rattle.playing.specs.Playing.{front_length, piece_record, piece_line, longest_line, pause_at_end, Playing, pausing, with_record, play_from, playing}
use Rattle.octets.proofs.Lent.{lent, lent_shared}
use Rattle.playing.proofs.PlayingLaws.{some_taken}
use Rattle.playing.proofs.play.Reads as play-contract

-- ---- a log, record by record

log_record : (b : Board) (n o : ℕ) (os : List ℕ) → log_end b n (o ∷ os) ≡ records_end b n (front_record (o ∷ os) ∷ records (behind (o ∷ os)))
log_record b n o os = ap (records_end b n) (first_record o os)

log_most : (b : Board) (n o : ℕ) (os : List ℕ) → leb largest_number n ≡ true → log_end b n (o ∷ os) ≡ ended b n
unfolding records_end
log_most b n o os e = log_record b n o os ∙ rw e

two_texts : (x y : List ℕ) (e : LogEnd) → with_text x (with_text y e) ≡ with_text (x ++ y) e
two_texts x y e = ap (λ (t : List ℕ). record { text = t; board = e.board; number = e.number }) (sym (append_assoc x y e.text))

-- ---- the record in front of a piece is the one in front of the log

-- what comes behind a piece: nothing behind the last one
abbrev pub Later : Bool → List ℕ → Type 0
Later last later = last ≡ true → later ≡ []

module _ (last : Bool) (o : ℕ) (os later : List ℕ) (z : Later last later) (h : eqb (front_length last (o ∷ os)) 0 ≡ false) where
  abbrev n : ℕ
  n = front_length last (o ∷ os)

  cut_last : (b : Bool) → last ≡ b → n ≡ cond b (length (o ∷ os)) 0 → (later ≡ []) × (n ≡ length (o ∷ os))
  cut_last true t k = (z t, k)
  cut_last false t k = absurd (eqb-false (front_length last (o ∷ os)) 0 h k)

  record_and_rest : (t : Bool) → leb (record_length o) (length (o ∷ os)) ≡ t
      → (piece_record last (o ∷ os) ≡ front_record (o ∷ (os ++ later))) × (drop n (o ∷ os) ++ later ≡ behind (o ∷ (os ++ later)))
  record_and_rest true t =
      let k : n ≡ record_length o = rw t in
      let l = leb-true (record_length o) (length (o ∷ os)) t in
      (rw k (sym (take-append-le (record_length o) (o ∷ os) later l)), rw k (sym (drop-append-le (record_length o) (o ∷ os) later l)))
  record_and_rest false t =
      let k = cut_last last refl (rw t) in
      let l = leb-false (record_length o) (length (o ∷ os)) t in (
        rw (k.1, k.0, append-nil os) (take-length (o ∷ os) ∙ sym (take_all (record_length o) (o ∷ os) (omega (arith, l)))),
        rw (k.1, k.0, append-nil os, append-nil (drop (length (o ∷ os)) (o ∷ os))) (drop-length (o ∷ os) ∙ sym (drop_of_length-le (o ∷ os) {i = record_length o} (omega (arith, l)))),
      )

  front_record_lem : piece_record last (o ∷ os) ≡ front_record (o ∷ (os ++ later))
  front_record_lem = (record_and_rest (leb (record_length o) (length (o ∷ os))) refl).0

  front_behind : drop n (o ∷ os) ++ later ≡ behind (o ∷ (os ++ later))
  front_behind = (record_and_rest (leb (record_length o) (length (o ∷ os))) refl).1

-- ---- a piece

-- what the log leads to behind a pause: nothing more where playing ends
abbrev pub after_pause : Pause → Board → ℕ → List ℕ → LogEnd
after_pause MoreInput b n left = log_end b n left
after_pause FullOutput b n left = log_end b n left
after_pause End b n left = ended b n

-- the log leads to the text of the piece and then to what it leads to behind the pause
abbrev pub LeadsOn : Playing → Board → ℕ → List ℕ → List ℕ → Type 0
LeadsOn p b n piece later =
    log_end b n (piece ++ later) ≡ with_text p.text (after_pause p.pause p.board p.number (drop p.read piece ++ later))

at_end : (last : Bool) (b : Board) (n : ℕ) (later : List ℕ) → Later last later → LeadsOn (pausing b n (pause_at_end last)) b n [] later
unfolding records_end
at_end true b n later z = ap (log_end b n) (z refl) ∙ ap (records_end b n) no_records
at_end false b n later z = refl

module _ (b : Board) (n o : ℕ) (os later : List ℕ) (last : Bool) (z : Later last later) (some : eqb (front_length last (o ∷ os)) 0 ≡ false) where
  abbrev line : List ℕ
  line = piece_line b n last (o ∷ os)

  abbrev after : Board
  after = (judged b (piece_record last (o ∷ os))).board

  -- the record in front, by the words of the piece
  in_front : leb largest_number n ≡ false →
      log_end b n (o ∷ (os ++ later))
      ≡ with_text line (cond (stops_reading (judged b (piece_record last (o ∷ os))).returned) (ended after (n + 1)) (log_end after (n + 1) (drop (front_length last (o ∷ os)) (o ∷ os) ++ later)))
  unfolding records_end
  in_front e =
      log_record b n o (os ++ later)
      ∙ rw (e, sym (front_record_lem last o os later z some), sym (front_behind last o os later z some))

  abbrev left : List ℕ
  left = drop (front_length last (o ∷ os)) (o ∷ os)

  by_test : {s : Bool} → stops_reading (judged b (piece_record last (o ∷ os))).returned ≡ s →
      with_text line (cond (stops_reading (judged b (piece_record last (o ∷ os))).returned) (ended after (n + 1)) (log_end after (n + 1) (left ++ later)))
      ≡ with_text line (cond s (ended after (n + 1)) (log_end after (n + 1) (left ++ later)))
  by_test e = ap (λ (x : Bool). with_text line (cond x (ended after (n + 1)) (log_end after (n + 1) (left ++ later)))) e

  stops_there : leb largest_number n ≡ false → stops_reading (judged b (piece_record last (o ∷ os))).returned ≡ true →
      LeadsOn (with_record (front_length last (o ∷ os)) line (pausing after (n + 1) End)) b n (o ∷ os) later
  stops_there e s = in_front e ∙ by_test s ∙ ap (λ (t : List ℕ). with_text t (ended after (n + 1))) (sym (append-nil line))

  goes_on : (p : Playing) → leb largest_number n ≡ false → stops_reading (judged b (piece_record last (o ∷ os))).returned ≡ false →
      LeadsOn p after (n + 1) left later → LeadsOn (with_record (front_length last (o ∷ os)) line p) b n (o ∷ os) later
  goes_on p e s f = in_front e ∙ by_test s ∙ ap (with_text line) f ∙ together
    where
      together : with_text line (with_text p.text (after_pause p.pause p.board p.number (drop p.read left ++ later)))
          ≡ with_text (line ++ p.text) (after_pause p.pause p.board p.number (drop (front_length last (o ∷ os) + p.read) (o ∷ os) ++ later))
      together =
          ap (λ (l : List ℕ). with_text line (with_text p.text (after_pause p.pause p.board p.number (l ++ later)))) (drop-drop p.read (front_length last (o ∷ os)) (o ∷ os))
          ∙ two_texts line p.text (after_pause p.pause p.board p.number (drop (front_length last (o ∷ os) + p.read) (o ∷ os) ++ later))

piece_of_log : (k : ℕ) (b : Board) (n : ℕ) (piece later : List ℕ) (last : Bool) (room : ℕ) → length piece ≤ k → Later last later →
    LeadsOn (play_from k b n piece last room) b n piece later
unfolding play_from
piece_of_log zero b n [] later last room h z = at_end last b n later z
piece_of_log zero b n (o ∷ os) later last room h z = absurd (omega (arith, h))
piece_of_log (suc k) b n [] later last room h z = at_end last b n later z
piece_of_log (suc k) b n (o ∷ os) later last room h z =
    go (ltb room longest_line) (eqb (front_length last (o ∷ os)) 0) (leb largest_number n) (stops_reading (judged b (piece_record last (o ∷ os))).returned) refl refl refl
    (λ t. piece_of_log k (judged b (piece_record last (o ∷ os))).board (n + 1) (drop (front_length last (o ∷ os)) (o ∷ os)) later last (room - length (piece_line b n last (o ∷ os))) (omega (arith, h, t)) z)
  where
    next : Playing
    next = play_from k (judged b (piece_record last (o ∷ os))).board (n + 1) (drop (front_length last (o ∷ os)) (o ∷ os)) last (room - length (piece_line b n last (o ∷ os)))

    go : (w x y s : Bool) → eqb (front_length last (o ∷ os)) 0 ≡ x → leb largest_number n ≡ y → stops_reading (judged b (piece_record last (o ∷ os))).returned ≡ s →
        (length (drop (front_length last (o ∷ os)) (o ∷ os)) ≤ length os → LeadsOn (play_from k (judged b (piece_record last (o ∷ os))).board (n + 1) (drop (front_length last (o ∷ os)) (o ∷ os)) last (room - length (piece_line b n last (o ∷ os)))) (judged b (piece_record last (o ∷ os))).board (n + 1) (drop (front_length last (o ∷ os)) (o ∷ os)) later) →
        LeadsOn (cond {A = Playing} w (pausing b n FullOutput) (cond x (pausing b n MoreInput) (cond y (pausing b n End)
        (with_record (front_length last (o ∷ os)) (piece_line b n last (o ∷ os)) (cond s (pausing (judged b (piece_record last (o ∷ os))).board (n + 1) End) next))))) b n (o ∷ os) later
    go true x y s ex ey es f = refl
    go false true y s ex ey es f = refl
    go false false true s ex ey es f = log_most b n o (os ++ later) ey
    go false false false true ex ey es f = stops_there b n o os later last z ex ey es
    go false false false false ex ey es f = goes_on b n o os later last z ex next ey es (f (some_taken last o os ex))

-- ---- the calls

-- a call of `play` that met its contract
pub record PlayContractMet (b : Board) (n : ℕ) (piece : List ℕ) (last : Bool) (before after : List ℕ) (r : Played) : Type 0 where
  pub lifetimes : Lfts 2
  pub piece_at : ℕ × ℕ
  pub buffer_at : (ℕ × ℕ) × GName
  pub met :
      play-contract.Post lifetimes (b, (n, (lent_shared piece_at piece, (last, (lent buffer_at before, tt))))) r
      (b, (n, (lent_shared piece_at piece, (last, (lent buffer_at after, tt)))))

-- calls of `play` on what is left of a log, until one ends: each gets the board and the number that the last one returned, and a piece of what is not read yet,
-- as long as it likes and told to be the last only where it is. Their text is what they leave in the front of their buffers.
pub data Calls : Board → ℕ → List ℕ → List ℕ → Board → ℕ → Type 0 where
  last_call : (b : Board) (n : ℕ) (piece later : List ℕ) (last : Bool) (before after : List ℕ) (r : Played) → Later last later →
      PlayContractMet b n piece last before after r → r.pause ≡ End → Calls b n (piece ++ later) (take r.written after) r.board r.number
  next_call : (b : Board) (n : ℕ) (piece later : List ℕ) (last : Bool) (before after : List ℕ) (r : Played) (text : List ℕ) (c : Board) (m : ℕ) → Later last later →
      PlayContractMet b n piece last before after r → (r.pause ≡ End → ⊥) → Calls r.board r.number (drop r.read piece ++ later) text c m →
      Calls b n (piece ++ later) (take r.written after ++ text) c m

module _ {b : Board} {n : ℕ} {piece later before after : List ℕ} {last : Bool} {r : Played} (z : Later last later) (h : PlayContractMet b n piece last before after r) where
  text_is : take r.written after ≡ (playing b n piece last (length before)).text
  text_is =
      let p = playing b n piece last (length before) in
      rw (h.met.is, h.met.buffer) (take_at p.text (drop (length p.text) before) (length p.text) refl)

  -- the log leads to the text of the call, and then to what it leads to behind the call's pause
  leads_on : log_end b n (piece ++ later) ≡ with_text (take r.written after) (after_pause r.pause r.board r.number (drop r.read piece ++ later))
  leads_on =
      piece_of_log (length piece) b n piece later last (length before) (omega arith) z ∙ rw (text_is, h.met.is)

not_ended : (p : Pause) (b : Board) (n : ℕ) (unread : List ℕ) → (p ≡ End → ⊥) → after_pause p b n unread ≡ log_end b n unread
not_ended MoreInput b n unread h = refl
not_ended FullOutput b n unread h = refl
not_ended End b n unread h = absurd (h refl)

-- whatever the pieces and the buffers, the calls give the text of the log, and leave its board and the number of its last record
pub pieces_give_the_log : {b c : Board} {n m : ℕ} {log text : List ℕ} → Calls b n log text c m →
    log_end b n log ≡ record { text = text; board = c; number = m }
pieces_give_the_log (last_call b n piece later last before after r z h e) =
    leads_on z h ∙ rw (e, append-nil (take r.written after))
pieces_give_the_log (next_call b n piece later last before after r text c m z h e k) =
    leads_on z h ∙ ap (with_text (take r.written after)) (not_ended r.pause r.board r.number (drop r.read piece ++ later) e ∙ pieces_give_the_log k)
