-- Lines follow their legs: what holds of the lines and of the board, pinning and events keep, and it makes the partner's line agree.
use Rattle.std.specs.Prelude.{None, Option, Some}
use Prim.Native.Nat.{ℕ}
use mathlib.Core.Path.{◌≡◌, ◌∙◌, ap, ap₂, refl, sym, subst, subst⁻¹}
use mathlib.Core.Logic.{◌⊎◌, inl, inr}
use mathlib.Core.Bool.{or-false, or_comm, Bool, true, false, not, cond, ◌&&◌, ◌||◌}
use mathlib.Core.List.{List, Memᴰ, map}
use lib.Dec.{T, eqb}
use lib.ListN.{length}
use Rattle.octets.specs.Lists.{any, all, distinct, filter, place_from}
use Rattle.octets.specs.Tests.{has}
use Rattle.octets.proofs.Lists.{right, test, true_not_false, from_true, all_at, any_has, mem_filter, small_one, eqb_eq, eqb_self, eqb_sym}
use Rattle.board.specs.declared.Board.{Board}
use Rattle.board.specs.declared.Connection.{Connection}
use Rattle.board.specs.declared.Connection.TheVariants.{WithUser, WithPartner}
use Rattle.board.specs.declared.Entry.{Entry}
use Rattle.board.specs.Entries.{entry, taken, has_leg}
use Rattle.board.specs.Making.{Opening, fresh}
use Rattle.board.specs.Soundness.{sound, sound_rows, sound_entries, valid_row, valid_options}
use Rattle.board.proofs.SoundEntries.{Sound, sound_of, legs_one, one_leg}
use Rattle.rules.specs.History.{on_board, HasRow, Partners}
use Rattle.rules.specs.Step.{Outcome, step}
use Rattle.rules.proofs.Agreement.{begun, sound_together}
use Rattle.rules.proofs.Errors.{untouched_step}
use Rattle.rules.proofs.Kept.{mate_of}
use Rattle.rules.proofs.SoundKept.{as_many_rows, sound_kept}
use Rattle.attendant_console.specs.declared.ShownAs.{ShownAs}
use Rattle.attendant_console.specs.declared.ShownLeg.{ShownLeg}
use Rattle.attendant_console.specs.declared.NotPinned.{NotPinned}
use Rattle.attendant_console.specs.declared.NotPinned.TheVariants.{UnsoundBoard, NotOnBoard, AlreadyPinned, NoEmptyLine}
use Rattle.attendant_console.specs.Screen.{Line, empty_lines, shown_as, shown_on, shows, is_empty, not_pinned, Pinned, shown_at_place, pin_as, pin, redrawn_line, lines_after}
use Rattle.attendant_console.specs.ScreenAgrees.{shown_legs, same_leg, is_joined, is_alerting}
use Rattle.attendant_console.proofs.Lines.{shown_by, shown_leg, on_board_shown, any_redrawn, once_redrawn, mem_redrawn, Filled, filled_at, mem_filled, any_filled, once_filled}

-- ---- what holds of a board and of lines that follow it

pub record Follows (b : Board) (ls : List Line) : Type 0 where
  pub sound_board : sound b ≡ true
  pub size : length b.rows ≡ 64
  pub once : distinct same_leg (shown_legs ls) ≡ true
  pub each : (x : ShownLeg) → Memᴰ (Some x) ls → shown_on b x.leg ≡ Some x

-- a line shows no leg that the board has not
pub shown_there : {b : Board} {ls : List Line} → Follows b ls → (n : ℕ) → any (shows n) ls ≡ true → on_board b n ≡ true
shown_there {b} {ls} f n h = let r = any_has (shows n) ls h in go r.0 r.1 r.2
  where
    go : (l : Line) → Memᴰ l ls → shows n l ≡ true → on_board b n ≡ true
    go None m t = absurd (true_not_false t refl)
    go (Some y) m t = ap (on_board b) (eqb_eq n y.leg t) ∙ on_board_shown b y.leg ∙ ap (has (λ (s : ShownLeg). true)) (f.each y m)

implied : (a c : Bool) → (a ≡ true → c ≡ true) → a ≡ (a && c)
implied true c h = sym (h refl)
implied false c h = refl

pub shown_still : {b : Board} {ls : List Line} → Follows b ls → (n : ℕ) → any (shows n) ls ≡ (any (shows n) ls && on_board b n)
shown_still {b} {ls} f n = implied (any (shows n) ls) (on_board b n) (shown_there f n)

-- ---- the first screen

pub follows_first : (way : Opening) (s a : ℕ) → Follows (fresh way s a).board empty_lines
follows_first way s a = record {
  sound_board = sound_together (begun way s a);
  size = (begun way s a).size;
  once = refl;
  each = λ x m. absurd (true_not_false (all_at is_empty m refl) refl);
}

-- ---- pinning

-- a refusal leaves the lines
pub record Refused (ls : List Line) (p : Pinned) : Type 0 where
  pub number : eqb p.returned 0 ≡ false
  pub lines : p.lines ≡ ls

-- else an empty line comes to show the leg
pub record Accepted (b : Board) (ls : List Line) (n : ℕ) (p : Pinned) : Type 0 where
  pub number : p.returned ≡ 0
  pub shown : ShownLeg
  pub on_board : shown_on b n ≡ Some shown
  pub unpinned : any (shows n) ls ≡ false
  pub lines : Filled shown ls p.lines

refused : (r : NotPinned) (ls : List Line) → Refused ls (not_pinned r ls)
refused UnsoundBoard ls = record { number = refl; lines = refl }
refused NotOnBoard ls = record { number = refl; lines = refl }
refused AlreadyPinned ls = record { number = refl; lines = refl }
refused NoEmptyLine ls = record { number = refl; lines = refl }

module _ (b : Board) (ls : List Line) (n : ℕ) where
  abbrev Either : Pinned → Type 0
  Either p = Refused ls p ⊎ Accepted b ls n p

  at_place : (s : ShownLeg) → shown_on b n ≡ Some s → any (shows n) ls ≡ false → (o : Option ℕ) → place_from is_empty 0 ls ≡ o → Either (shown_at_place s o ls)
  at_place s e f None h = inl (refused NoEmptyLine ls)
  at_place s e f (Some i) h = inr (record { number = refl; shown = s; on_board = e; unpinned = f; lines = filled_at s ls i h })

  unless_pinned : (s : ShownLeg) → shown_on b n ≡ Some s → (x : Bool) → any (shows n) ls ≡ x → Either (cond x (not_pinned AlreadyPinned ls) (shown_at_place s (place_from is_empty 0 ls) ls))
  unless_pinned s e true f = inl (refused AlreadyPinned ls)
  unless_pinned s e false f = at_place s e f (place_from is_empty 0 ls) refl

  where_shown : (o : Option ShownLeg) → shown_on b n ≡ o → Either (pin_as o n ls)
  where_shown None e = inl (refused NotOnBoard ls)
  where_shown (Some s) e = unless_pinned s e (any (shows n) ls) refl

  pub pinned : Either (pin ls b n)
  unfolding pin
  pinned = go (sound b)
    where
      go : (x : Bool) → Either (cond x (pin_as (shown_on b n) n ls) (not_pinned UnsoundBoard ls))
      go true = where_shown (shown_on b n) refl
      go false = inl (refused UnsoundBoard ls)

module _ {b : Board} {ls : List Line} (f : Follows b ls) (n : ℕ) where
  either_follows : {p : Pinned} → Refused ls p ⊎ Accepted b ls n p → Follows b p.lines
  either_follows (inl r) = subst⁻¹ (Follows b) r.lines f
  either_follows {p} (inr a) = record {
    sound_board = f.sound_board;
    size = f.size;
    once = once_filled a.lines (ap (λ (m : ℕ). any (shows m) ls) (shown_leg b n a.on_board) ∙ a.unpinned) f.once;
    each = λ x m. go x (mem_filled a.lines m);
  }
    where
      go : (x : ShownLeg) → (x ≡ a.shown) ⊎ Memᴰ (Some x) ls → shown_on b x.leg ≡ Some x
      go x (inl e) = ap (λ (s : ShownLeg). shown_on b s.leg) e ∙ ap (shown_on b) (shown_leg b n a.on_board) ∙ a.on_board ∙ ap (λ (s : ShownLeg). Some s) (sym e)
      go x (inr m) = f.each x m

  pub pin_follows : Follows b (pin ls b n).lines
  pin_follows = either_follows (pinned b ls n)

  either_shows : (l : ℕ) {p : Pinned} → Refused ls p ⊎ Accepted b ls n p → any (shows l) p.lines ≡ (any (shows l) ls || (eqb p.returned 0 && eqb n l))
  either_shows l {p} (inl r) = ap (any (shows l)) r.lines ∙ sym (or-false (any (shows l) ls)) ∙ ap (λ (x : Bool). any (shows l) ls || (x && eqb n l)) (sym r.number)
  either_shows l {p} (inr a) =
      any_filled l a.lines ∙ or_comm (eqb l a.shown.leg) (any (shows l) ls)
      ∙ ap (λ (x : Bool). any (shows l) ls || x) (eqb_sym l a.shown.leg ∙ ap (λ (m : ℕ). eqb m l) (shown_leg b n a.on_board) ∙ ap (λ (k : ℕ). eqb k 0 && eqb n l) (sym a.number))

  -- besides the legs that it showed, the screen shows the leg where pinning returned 0
  pub pin_shows : (l : ℕ) → any (shows l) (pin ls b n).lines ≡ (any (shows l) ls || (eqb (pin ls b n).returned 0 && eqb n l))
  pin_shows l = either_shows l (pinned b ls n)

-- ---- an event

module _ {b : Board} {ls : List Line} (f : Follows b ls) (os : List ℕ) (room : ℕ) where
  board_stays : eqb (step b os room).returned 0 ≡ false → (step b os room).board ≡ b
  board_stays e = ap (λ (o : Outcome). o.board) (untouched_step b (record { octets = os; room = room }) e)

  lines_stay : eqb (step b os room).returned 0 ≡ false → lines_after (step b os room) ls ≡ ls
  unfolding lines_after
  lines_stay e = ap (λ (x : Bool). cond x (map (redrawn_line (step b os room).board) ls) ls) e

  lines_redrawn : eqb (step b os room).returned 0 ≡ true → lines_after (step b os room) ls ≡ map (redrawn_line (step b os room).board) ls
  unfolding lines_after
  lines_redrawn e = ap (λ (x : Bool). cond x (map (redrawn_line (step b os room).board) ls) ls) e

  pub event_follows : Follows (step b os room).board (lines_after (step b os room) ls)
  event_follows = go (test (eqb (step b os room).returned 0))
    where
      go : (eqb (step b os room).returned 0 ≡ true) ⊎ (eqb (step b os room).returned 0 ≡ false) → Follows (step b os room).board (lines_after (step b os room) ls)
      go (inl e) = subst⁻¹ (Follows (step b os room).board) (lines_redrawn e) (record {
        sound_board = sound_kept b os room f.size ∙ f.sound_board;
        size = as_many_rows b os room ∙ f.size;
        once = once_redrawn (step b os room).board ls f.once;
        each = λ x m. mem_redrawn (step b os room).board ls m;
      })
      go (inr e) = subst⁻¹ (λ (c : Board). Follows c (lines_after (step b os room) ls)) (board_stays e) (subst⁻¹ (Follows b) (lines_stay e) f)

  -- the screen shows the legs that it showed and that the board still has
  pub event_shows : (l : ℕ) → any (shows l) (lines_after (step b os room) ls) ≡ (any (shows l) ls && on_board (step b os room).board l)
  event_shows l = go (test (eqb (step b os room).returned 0))
    where
      go : (eqb (step b os room).returned 0 ≡ true) ⊎ (eqb (step b os room).returned 0 ≡ false) →
          any (shows l) (lines_after (step b os room) ls) ≡ (any (shows l) ls && on_board (step b os room).board l)
      go (inl e) = ap (any (shows l)) (lines_redrawn e) ∙ any_redrawn (step b os room).board l ls
      go (inr e) =
          ap (any (shows l)) (lines_stay e) ∙ shown_still f l
          ∙ ap (λ (c : Board). any (shows l) ls && on_board c l) (sym (board_stays e))

-- ---- the partner's line

joined_shown : (p : ℕ) (a : Bool) → T (is_joined (shown_as (WithPartner p a)))
joined_shown p true = tt
joined_shown p false = tt

alerting_shown : (p : ℕ) (a : Bool) → is_alerting (shown_as (WithPartner p a)) ≡ a
alerting_shown p true = refl
alerting_shown p false = refl

module _ {b : Board} {ls : List Line} (f : Follows b ls) where
  entries_sound : Sound (taken b.rows)
  unfolding sound sound_rows
  entries_sound = sound_of (taken b.rows) (right (all valid_row b.rows) (sound_entries (taken b.rows)) (right (valid_options b.options) (sound_rows b.rows) f.sound_board))

  row_of : (n : ℕ) (t : Connection) → Memᴰ (entry n t) (taken b.rows) → HasRow b n t
  row_of n t m = small_one (filter (has_leg n) (taken b.rows)) (legs_one n entries_sound) (mem_filter (has_leg n) m (eqb_self n))

  -- a line of that leg shows what the leg's entry has
  shown_in : (n : ℕ) (t : Connection) → Memᴰ (entry n t) (taken b.rows) → (y : ShownLeg) → Memᴰ (Some y) ls → y.leg ≡ n → shown_as t ≡ y.shown_as
  shown_in n t h y m e =
      let s = shown_by b y.leg (f.each y m) in
      let o : entry n t ≡ s.from = one_leg entries_sound n h s.there (eqb_self n) (ap (eqb n) (sym s.leg ∙ e) ∙ eqb_self n) in
      ap (λ (g : Entry). shown_as g.connection) o ∙ ap (λ (x : ShownLeg). x.shown_as) s.shown

  pub partner_of : (x : ShownLeg) → Memᴰ (Some x) ls → T (is_joined x.shown_as) →
      (m : ℕ) × Partners b x.leg m
      × ((y : ShownLeg) → Memᴰ (Some y) ls → y.leg ≡ m → T (is_joined y.shown_as) × T (not (is_alerting x.shown_as && is_alerting y.shown_as)))
  partner_of x m j =
      let s = shown_by b x.leg (f.each x m) in
      go s.from.connection (subst⁻¹ (λ (n : ℕ). Memᴰ (entry n s.from.connection) (taken b.rows)) s.leg s.there) (ap (λ (y : ShownLeg). y.shown_as) s.shown)
    where
      go : (t : Connection) → Memᴰ (entry x.leg t) (taken b.rows) → shown_as t ≡ x.shown_as →
          (p : ℕ) × Partners b x.leg p
          × ((y : ShownLeg) → Memᴰ (Some y) ls → y.leg ≡ p → T (is_joined y.shown_as) × T (not (is_alerting x.shown_as && is_alerting y.shown_as)))
      go (WithUser c) h e = absurd (subst⁻¹ (λ (a : ShownAs). T (is_joined a)) e j)
      go (WithPartner p a) h e =
          let r = mate_of entries_sound x.leg p a h in (
            p,
            ((a, row_of x.leg (WithPartner p a) h), (r.0, row_of p (WithPartner x.leg r.0) r.1)),
            λ y k q.
                let u = shown_in p (WithPartner x.leg r.0) r.1 y k q in (
                  subst (λ (w : ShownAs). T (is_joined w)) u (joined_shown x.leg r.0),
                  from_true (ap not (ap₂ ◌&&◌ (ap is_alerting (sym e) ∙ alerting_shown p a) (ap is_alerting (sym u) ∙ alerting_shown x.leg r.0) ∙ r.3)),
                ),
          )
