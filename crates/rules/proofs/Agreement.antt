-- Board and book stay together from event to event.
use Rattle.std.specs.Prelude.{None, Option, Some}
use Prim.Native.Nat.{ℕ}
use mathlib.Core.Path.{◌∙◌, ◌≡◌, refl, ap, ap₂, subst, subst⁻¹}
use mathlib.Core.Bool.{true, Bool, cond, false}
use mathlib.Core.List.{◌∷◌, List, []}
use lib.Dec.{eqb, leb, ltb}
use lib.ListN.{length, get_or, drop}
use Rattle.board.proofs.SoundEntries.{Sound, of_sound, sound_perm, sound_of}
use Rattle.board.specs.Changes.{full}
use Rattle.board.specs.Entries.{taken}
use Rattle.board.specs.Making.{Opening, Live, ForOldLog, options, making_refusal, made, fresh, empty_board}
use Rattle.board.specs.Soundness.{valid_row, valid_options, sound, sound_rows, sound_entries}
use Rattle.board.specs.declared.Board.{Board}
use Rattle.board.specs.declared.Options.{Options}
use Rattle.rules.proofs.Kept.{kept}
use Rattle.rules.proofs.Order.{decide_perm}
use Rattle.rules.proofs.Rows.{full_is, candidate_same, after_perm, rows_length, rows_right, Fine, fine, view}
use Rattle.rules.specs.Book.{Book, book_rules, book_after, candidate_moves, entries_after, book_decision, fresh_book, fed_options, empty_book, book_step}
use Rattle.rules.specs.Checks.{BoardChange, decide, Decision, returned_by, change_of, Refuse}
use Rattle.events.specs.Refusals.{refusal_number}
use Rattle.events.specs.Records.{body_length}
use Rattle.board.specs.States.{direction_with, auxiliary_with}
use Rattle.events.specs.EventRecords.{request, ranged, Request, in_range, Malformed, sized, open_body, typed_number_in, untyped_number_in, progress_body, field, hold_body, Release, facility_body, Answer, leg_facility_body, inform_body}
use Rattle.rules.specs.History.{returns, Event, stepped, board_at, book_at, book_returns, booked}
use Rattle.rules.specs.Step.{decision, board_after, rows_after, Outcome, refused, step, step_tested, done}
use Rattle.events.specs.declared.Refusal.TheVariants.{FieldOutOfRange, WrongLength, BufferTooSmall, UnsoundBoard}
use Rattle.octets.proofs.Lists.{Perm, both, length_perm, p_trans, p_sym, p_nil}
use Rattle.octets.specs.Lists.{all}
use Rattle.events.specs.declared.Refusal.TheVariants as refusal

-- ---- a request is in range

ranged_in : (q : Request) → in_range (ranged q) ≡ true
ranged_in q = go (in_range q) refl
  where
    go : (b : Bool) → in_range q ≡ b → in_range (cond b q (Malformed refusal.FieldOutOfRange)) ≡ true
    go true h = h
    go false h = refl

pub data In : Request → Type 0 where
  is_in : {q : Request} → in_range q ≡ true → In q

sized_in : (k : ℕ) (b : List ℕ) (q : Request) → In (sized k b q)
sized_in k b q = is_in (go (eqb (length b) (body_length k)))
  where
    go : (x : Bool) → in_range (cond x (ranged q) (Malformed refusal.WrongLength)) ≡ true
    go true = ranged_in q
    go false = refl

either_in : (x : Bool) {q r : Request} → In q → In r → In (cond x q r)
either_in true h k = h
either_in false h k = k

in_is : {q : Request} → In q → in_range q ≡ true
in_is (is_in h) = h

request_In : (os : List ℕ) → In (request os)
unfolding request
request_In [] = is_in refl
request_In (k ∷ b) =
    either_in (eqb k 1) (sized_in 1 b (open_body b (untyped_number_in b) (direction_with (get_or b 6 0))))
    (either_in (eqb k 2) (sized_in 2 b (progress_body (field 0 2 b) (get_or b 2 0)))
    (either_in (eqb k 3) (sized_in 3 b (hold_body (field 0 2 b) (auxiliary_with (get_or b 2 0))))
    (either_in (eqb k 4) (sized_in 4 b (Release (field 0 4 b)))
    (either_in (eqb k 5) (sized_in 5 b (facility_body (field 0 2 b) (get_or b 2 0) (drop 3 b)))
    (either_in (eqb k 6) (sized_in 6 b (Answer (field 0 4 b)))
    (either_in (eqb k 7) (sized_in 7 b (leg_facility_body b))
    (either_in (eqb k 8) (sized_in 8 b (inform_body (field 0 2 b) (get_or b 2 0) (drop 3 b)))
    (either_in (eqb k 9) (sized_in 9 b (open_body b (typed_number_in b) (direction_with (get_or b 6 0)))) (is_in refl)))))))))

pub request_in : (os : List ℕ) → in_range (request os) ≡ true
request_in os = in_is (request_In os)

-- ---- board and book together

pub record Together (b : Board) (k : Book) : Type 0 where
  pub options : b.options ≡ k.options
  pub candidate : b.candidate.0 ≡ k.candidate
  pub order : Perm (taken b.rows) k.entries
  pub size : length b.rows ≡ 64
  pub rows_are : all valid_row b.rows ≡ true
  pub entries_are : Sound (taken b.rows)
  pub options_are : valid_options b.options ≡ true

pub sound_together : {b : Board} {k : Book} → Together b k → sound b ≡ true
unfolding sound sound_rows
sound_together t = both t.options_are (both t.rows_are (of_sound t.entries_are))

full_same : {b : Board} {k : Book} → Together b k → full b.rows ≡ leb 64 (length k.entries)
full_same {b} {k} t = full_is b.rows ∙ ap₂ leb t.size (length_perm t.order)

pub same_decision : {b : Board} {k : Book} → Together b k → (os : List ℕ) → decision b os ≡ book_rules k os
unfolding decision book_rules
same_decision {b} {k} t os =
    decide_perm t.entries_are t.order b.options b.candidate.0 (full b.rows) (request os)
    ∙ (λ i. decide (t.options i) (t.candidate i) (full_same t i) k.entries (request os))

-- the board and the book after what the board decides
after_together : {b : Board} {k : Book} → Together b k → (os : List ℕ) → Together (board_after (decision b os) b) (book_after (decision b os) k)
unfolding board_after book_after decision
after_together {b} {k} t os = record {
  options = t.options;
  candidate = candidate_same c b.candidate ∙ ap (candidate_moves c) t.candidate;
  order = p_trans seen (after_perm c t.order);
  size = rows_length c b.rows ∙ t.size;
  rows_are = rows_right (full b.rows) c b.rows ok t.rows_are;
  entries_are = sound_perm (p_sym seen) (kept b.options b.candidate.0 (full b.rows) (taken b.rows) (request os) t.entries_are (request_in os));
  options_are = t.options_are;
}
  where
    c : Option BoardChange
    c = change_of (decide b.options b.candidate.0 (full b.rows) (taken b.rows) (request os))

    ok : Fine (full b.rows) c
    ok = fine b.options b.candidate.0 (full b.rows) (taken b.rows) (request os) (request_in os)

    seen : Perm (taken (rows_after c b.rows)) (entries_after c (taken b.rows))
    seen = view c b.rows ok

-- what the next event returns, and that board and book stay together
pub record Next (b : Board) (k : Book) (o : Outcome) (d : Decision) : Type 0 where
  pub same : o.returned ≡ returned_by d
  pub together : Together o.board (book_after d k)

refused_together : {b : Board} {k : Book} → Together b k → Together b (book_after (Refuse refusal.BufferTooSmall) k)
unfolding book_after entries_after candidate_moves
refused_together t = t

pub next : {b : Board} {k : Book} → Together b k → (e : Event) → Next b k (stepped b e) (book_decision k e.octets e.room)
unfolding step step_tested book_decision
next {b} {k} t e =
    subst (λ (d : Decision). Next b k (stepped b e) (cond (ltb e.room 128) (Refuse refusal.BufferTooSmall) d)) (same_decision t e.octets)
    (subst⁻¹ (λ (y : Bool). Next b k (cond (ltb e.room 128) (refused (refusal_number refusal.BufferTooSmall) b) (cond y (done b (decision b e.octets)) (refused (refusal_number refusal.UnsoundBoard) b))) (cond (ltb e.room 128) (Refuse refusal.BufferTooSmall) (decision b e.octets)))
    (sound_together t) (go (ltb e.room 128)))
  where
    go : (x : Bool) → Next b k (cond x (refused (refusal_number refusal.BufferTooSmall) b) (done b (decision b e.octets))) (cond x (Refuse refusal.BufferTooSmall) (decision b e.octets))
    go true = record { same = refl; together = refused_together t }
    go false = record { same = refl; together = after_together t e.octets }

-- ---- an empty board and an empty book, and those that begin fresh

pub empty_together : (o : Options) → valid_options o ≡ true → Together (empty_board o) (empty_book o)
unfolding valid_row sound_entries
empty_together o h = record {
  options = refl;
  candidate = refl;
  order = p_nil;
  size = refl;
  rows_are = refl;
  entries_are = sound_of [] refl;
  options_are = h;
}

-- where an opening refuses nothing the options are in range
pub opened_valid : (way : Opening) (o : Options) → making_refusal way o ≡ None → valid_options o ≡ true
opened_valid Live o = by_first (eqb o.subscribed 1) (valid_options o)
  where
    by_first : (x v : Bool) → cond {A = Option ℕ} x (Some 14) (cond v None (Some 5)) ≡ None → v ≡ true
    by_first x true e = refl
    by_first true false e = cc
    by_first false false e = cc
opened_valid ForOldLog o = by_options (valid_options o)
  where
    by_options : (v : Bool) → cond {A = Option ℕ} v None (Some 5) ≡ None → v ≡ true
    by_options true e = refl
    by_options false e = cc

pub begun : (way : Opening) (s a : ℕ) → Together (fresh way s a).board (fresh_book way s a)
unfolding fresh fresh_book
begun way s a = go (making_refusal way (options s a)) refl
  where
    go : (r : Option ℕ) → making_refusal way (options s a) ≡ r → Together (made (options s a) r).board (empty_book (fed_options (options s a) r))
    go None h = empty_together (options s a) (opened_valid way (options s a) h)
    go (Some n) h = empty_together (options 0 0) refl

-- ---- whole lists

pub played_together : {b : Board} {k : Book} → Together b k → (list : List Event) → Together (board_at b list) (book_at k list)
unfolding board_at book_at book_step
played_together {b} {k} t [] = t
played_together {b} {k} t (e ∷ es) = played_together {b = (stepped b e).board} {k = booked k e} (next t e).together es

pub same_returns : {b : Board} {k : Book} → Together b k → (list : List Event) → returns b list ≡ book_returns k list
unfolding returns book_returns book_step
same_returns {b} {k} t [] = refl
same_returns {b} {k} t (e ∷ es) = ap₂ (λ (c : ℕ) (cs : List ℕ). c ∷ cs) (next t e).same (same_returns {b = (stepped b e).board} {k = booked k e} (next t e).together es)
