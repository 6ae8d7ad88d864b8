-- Events that move nobody: what the claims of them share. The rows of a leg and of a call, and the book that stays.
use Prim.Native.Nat.{ℕ}
use mathlib.Core.Path.{◌≡◌, refl, sym, ap, ◌∙◌}
use mathlib.Core.Bool.{Bool, true, false, cond}
use mathlib.Core.List.{List, [], ◌∷◌}
use Rattle.std.specs.Prelude.{None, Option, Some}
use lib.Dec.{leb, ltb}
use lib.IntN.{ℤ}
use lib.ListN.{length}
use Rattle.octets.proofs.Lists.{right, find_mem, find_filter, head_of, small_one, mem_filter, eqb_eq, eqb_of, eqb_self}
use Rattle.octets.specs.Lists.{all, filter}
use Rattle.board.proofs.SoundEntries.{Sound, sound_of, legs_one}
use Rattle.board.specs.declared.Board.{Board}
use Rattle.board.specs.declared.Call.{Call}
use Rattle.board.specs.declared.Connection.{Connection}
use Rattle.board.specs.declared.Connection.TheVariants.{WithUser}
use Rattle.board.specs.declared.Entry.{Entry}
use Rattle.board.specs.declared.Options.{Options}
use Rattle.board.specs.declared.Party.{Party}
use Rattle.board.specs.Entries.{entry, taken, has_leg, calls, has_party_reference}
use Rattle.board.specs.Soundness.{sound, sound_rows, sound_entries, valid_row, valid_options}
use Rattle.events.specs.declared.Refusal.{Refusal}
use Rattle.events.specs.declared.Refusal.TheVariants as refusal
use Rattle.events.specs.EventRecords.{Request, Malformed, request}
use Rattle.rules.specs.Book.{Book, book_step, book_after, book_decision, book_rules, entries_after, candidate_moves}
use Rattle.rules.specs.Checks.{BoardChange, Refuse, decide, entry_at, named, change_of}
use Rattle.rules.specs.History.{opens, ends, opens_leg, ends_leg, transfer_of, joined_by, HasRow}
use Rattle.rules.specs.SingleEvents.{MovesNobody}
use Rattle.rules.proofs.Kept.{party_mem, mem_party}
use Rattle.rules.proofs.Order.{calls_one}

-- ---- the row of a leg, and its entry

sound_entries_lem : (b : Board) → sound b ≡ true → Sound (taken b.rows)
unfolding sound sound_rows
sound_entries_lem b s = sound_of (taken b.rows) (right (all valid_row b.rows) (sound_entries (taken b.rows)) (right (valid_options b.options) _ s))

pub row_entry_lem : (b : Board) (l : ℕ) (t : Connection) → HasRow b l t → entry_at l (taken b.rows) ≡ Some (entry l t)
unfolding head_of
row_entry_lem b l t h = find_filter (has_leg l) (taken b.rows) ∙ ap head_of h

pub entry_row : (b : Board) (l : ℕ) {e : Entry} → sound b ≡ true → entry_at l (taken b.rows) ≡ Some e → HasRow b l e.connection
entry_row b l {e} s h =
    let m = find_mem (has_leg l) (taken b.rows) h in
    let r = small_one (filter (has_leg l) (taken b.rows)) (legs_one l (sound_entries_lem b s)) (mem_filter (has_leg l) m.0 m.1) in
    r ∙ ap (λ (n : ℕ). entry n e.connection ∷ []) (sym (eqb_eq l e.leg m.1))

-- ---- the row of a call, and its party

abbrev pub party : ℕ → Call → Party
party l c = record { leg = l; call = c }

pub row_party : (b : Board) (r l : ℕ) (c : Call) → sound b ≡ true → HasRow b l (WithUser c) → c.reference.0 ≡ r → named r (taken b.rows) ≡ Some (party l c)
unfolding head_of
row_party b r l c s h e =
    let m = find_mem (has_leg l) (taken b.rows) (row_entry_lem b l (WithUser c) h) in
    let p = mem_filter (has_party_reference r) (mem_party m.0) (eqb_of r c.reference.0 (sym e)) in
    find_filter (has_party_reference r) (calls (taken b.rows))
    ∙ ap head_of (small_one (filter (has_party_reference r) (calls (taken b.rows))) (calls_one r (sound_entries_lem b s)) p)

pub party_row : (b : Board) (r : ℕ) {p : Party} → sound b ≡ true → named r (taken b.rows) ≡ Some p → HasRow b p.leg (WithUser p.call)
party_row b r {p} s h =
    let m = find_mem (has_party_reference r) (calls (taken b.rows)) h in
    small_one (filter (has_leg p.leg) (taken b.rows)) (legs_one p.leg (sound_entries_lem b s)) (mem_filter (has_leg p.leg) (party_mem (taken b.rows) m.0) (eqb_self p.leg))

-- ---- nobody is opened, ended or joined

-- a request that changes nothing, and opens and ends nobody
pub record Still (q : Request) : Type 0 where
  pub changes_none : (o : Options) (z : ℤ) (full : Bool) (es : List Entry) → change_of (decide o z full es q) ≡ None
  pub opens_none : (l : ℕ) → opens_leg l q ≡ false
  pub ends_none : (es : List Entry) (l : ℕ) → ends_leg es l q ≡ false

pub malformed_still : (c : Refusal) → Still (Malformed c)
unfolding decide
malformed_still c = record { changes_none = λ o z full es. refl; opens_none = λ l. refl; ends_none = λ es l. refl }

pub either_still : (x : Bool) {p q : Request} → Still p → Still q → Still (cond x p q)
either_still true f g = f
either_still false f g = g

pub still_moves_nobody : (k : Book) (os : List ℕ) (room : ℕ) → Still (request os) → MovesNobody k (record { octets = os; room = room })
unfolding book_step book_after book_decision book_rules entries_after candidate_moves opens ends transfer_of
still_moves_nobody k os room s = record {
  book_stays = ap (λ (c : Option BoardChange). record { options = k.options; candidate = candidate_moves c k.candidate; entries = entries_after c k.entries }) same;
  opens_nobody = s.opens_none;
  ends_nobody = s.ends_none k.entries;
  joins_nobody = λ l. ap (joined_by l) same;
}
  where
    same : change_of (book_decision k os room) ≡ None
    same = go (ltb room 128)
      where
        go : (x : Bool) → change_of (cond x (Refuse refusal.BufferTooSmall) (decide k.options k.candidate (leb 64 (length k.entries)) k.entries (request os))) ≡ None
        go true = refl
        go false = s.changes_none k.options k.candidate (leb 64 (length k.entries)) k.entries
