-- Laws of lines: what the board says of their legs, and which legs they show with one more and once they are redrawn_line.
use Rattle.std.specs.Prelude.{None, Option, Some, option_map}
use Prim.Native.Nat.{ℕ, suc}
use native.Mathlib.Omega.{arith}
use mathlib.Core.Path.{◌≡◌, ◌∙◌, ap, ap₂, refl, sym, subst}
use mathlib.Core.Logic.{◌⊎◌, inl, inr}
use mathlib.Core.Bool.{and-false, and-or_distrib_right, and-true, Bool, true, false, not, ◌&&◌, ◌||◌}
use mathlib.Core.List.{List, [], ◌∷◌, Memᴰ, map}
use lib.Dec.{eqb}
use lib.ListN.{set}
use Rattle.octets.specs.Lists.{any, find, or_else, distinct, cons_opt, place_from}
use Rattle.octets.specs.Tests.{has}
use Rattle.octets.proofs.Lists.{find_mem, map_mem, left, right, both, is_not, neither, or_false, or_swap, eqb_eq, eqb_sym}
use Rattle.octets.proofs.Places.{place_cons}
use Rattle.board.specs.declared.Board.{Board}
use Rattle.board.specs.declared.Entry.{Entry}
use Rattle.board.specs.Entries.{taken, has_leg}
use Rattle.rules.specs.History.{on_board}
use Rattle.attendant_console.specs.declared.ShownLeg.{ShownLeg}
use Rattle.attendant_console.specs.Screen.{Line, shown_entry, shown_on, shows, is_empty, redrawn_line}
use Rattle.attendant_console.specs.ScreenAgrees.{shown_legs, same_leg}

-- ---- what the board says of a leg

-- the entry by which a leg is shown
pub record ShownBy (b : Board) (n : ℕ) (x : ShownLeg) : Type 0 where
  pub from : Entry
  pub there : Memᴰ from (taken b.rows)
  pub leg : n ≡ from.leg
  pub shown : shown_entry from ≡ x

pub shown_by : (b : Board) (n : ℕ) {x : ShownLeg} → shown_on b n ≡ Some x → ShownBy b n x
unfolding shown_on
shown_by b n {x} e = go (find (has_leg n) (taken b.rows)) (λ f q. find_mem (has_leg n) (taken b.rows) q) e
  where
    go : (o : Option Entry) → ((f : Entry) → o ≡ Some f → Memᴰ f (taken b.rows) × (has_leg n f ≡ true)) → option_map shown_entry o ≡ Some x → ShownBy b n x
    go None g h = let z : ◌≡◌ {A = ℕ} 0 1 = cc in absurd (omega arith)
    go (Some f) g h = let r = g f refl in record { from = f; there = r.0; leg = eqb_eq n f.leg r.1; shown = cc }

pub shown_leg : (b : Board) (n : ℕ) {x : ShownLeg} → shown_on b n ≡ Some x → x.leg ≡ n
shown_leg b n e = let r = shown_by b n e in ap (λ (s : ShownLeg). s.leg) (sym r.shown) ∙ sym r.leg

module _ {A : Type 0} where
  any_found : (p : A → Bool) (l : List A) → any p l ≡ has (λ (x : A). true) (find p l)
  any_found p [] = refl
  any_found p (x ∷ l) = go (p x) (any_found p l)
    where
      go : (b : Bool) → any p l ≡ has (λ (y : A). true) (find p l) → (b || any p l) ≡ has (λ (y : A). true) (or_else b x (find p l))
      go true e = refl
      go false e = e

-- the board has the legs of which it says something
pub on_board_shown : (b : Board) (n : ℕ) → on_board b n ≡ has (λ (s : ShownLeg). true) (shown_on b n)
unfolding shown_on
on_board_shown b n = any_found (has_leg n) (taken b.rows) ∙ go (find (has_leg n) (taken b.rows))
  where
    go : (o : Option Entry) → has (λ (e : Entry). true) o ≡ has (λ (s : ShownLeg). true) (option_map shown_entry o)
    go None = refl
    go (Some e) = refl

pub shown_any : (n : ℕ) (ls : List Line) → any (λ (s : ShownLeg). eqb n s.leg) (shown_legs ls) ≡ any (shows n) ls
shown_any n [] = refl
shown_any n (None ∷ ls) = shown_any n ls
shown_any n (Some y ∷ ls) = ap (λ (b : Bool). eqb n y.leg || b) (shown_any n ls)

-- ---- lines that are redrawn_line

and_as : (a c d : Bool) → (a ≡ true → c ≡ d) → (a && c) ≡ (a && d)
and_as true c d f = f refl
and_as false c d f = refl

module _ (b : Board) where
  shows_redrawn : (n : ℕ) (l : Line) → shows n (redrawn_line b l) ≡ (shows n l && on_board b n)
  shows_redrawn n None = refl
  shows_redrawn n (Some y) = go (shown_on b y.leg) refl ∙ sym (and_as (eqb n y.leg) (on_board b n) (has (λ (s : ShownLeg). true) (shown_on b y.leg)) same)
    where
      same : eqb n y.leg ≡ true → on_board b n ≡ has (λ (s : ShownLeg). true) (shown_on b y.leg)
      same t = ap (on_board b) (eqb_eq n y.leg t) ∙ on_board_shown b y.leg

      go : (o : Line) → shown_on b y.leg ≡ o → shows n o ≡ (eqb n y.leg && has (λ (s : ShownLeg). true) o)
      go None e = sym (and-false (eqb n y.leg))
      go (Some z) e = ap (eqb n) (shown_leg b y.leg e) ∙ sym (and-true (eqb n y.leg))

  pub any_redrawn : (n : ℕ) (ls : List Line) → any (shows n) (map (redrawn_line b) ls) ≡ (any (shows n) ls && on_board b n)
  any_redrawn n [] = refl
  any_redrawn n (l ∷ ls) = ap₂ ◌||◌ (shows_redrawn n l) (any_redrawn n ls) ∙ sym (and-or_distrib_right (shows n l) (any (shows n) ls) (on_board b n))

  pub once_redrawn : (ls : List Line) → distinct same_leg (shown_legs ls) ≡ true → distinct same_leg (shown_legs (map (redrawn_line b) ls)) ≡ true
  once_redrawn [] h = refl
  once_redrawn (None ∷ ls) h = once_redrawn ls h
  once_redrawn (Some y ∷ ls) h = go (shown_on b y.leg) refl (once_redrawn ls (right (not (any (same_leg y) (shown_legs ls))) _ h))
    where
      others : any (shows y.leg) ls ≡ false
      others = sym (shown_any y.leg ls) ∙ is_not (left (not (any (same_leg y) (shown_legs ls))) _ h)

      go : (o : Line) → shown_on b y.leg ≡ o → distinct same_leg (shown_legs (map (redrawn_line b) ls)) ≡ true → distinct same_leg (cons_opt o (shown_legs (map (redrawn_line b) ls))) ≡ true
      go None e k = k
      go (Some z) e k =
          let o : any (shows z.leg) ls ≡ false = ap (λ (n : ℕ). any (shows n) ls) (shown_leg b y.leg e) ∙ others in
          both (ap not (shown_any z.leg (map (redrawn_line b) ls) ∙ any_redrawn z.leg ls ∙ ap (λ (x : Bool). x && on_board b z.leg) o)) k

  pub mem_redrawn : (ls : List Line) {x : ShownLeg} → Memᴰ (Some x) (map (redrawn_line b) ls) → shown_on b x.leg ≡ Some x
  mem_redrawn ls {x} m = let r = map_mem (redrawn_line b) ls m in go r.0 r.2
    where
      go : (l : Line) → Some x ≡ redrawn_line b l → shown_on b x.leg ≡ Some x
      go None e = let z : ◌≡◌ {A = ℕ} 0 1 = cc in absurd (omega arith)
      go (Some y) e = ap (shown_on b) (shown_leg b y.leg (sym e)) ∙ sym e

-- ---- lines of which an empty one comes to show s

pub data Filled (s : ShownLeg) : List Line → List Line → Type 0 where
  fills : {ls : List Line} → Filled s (None ∷ ls) (Some s ∷ ls)
  fills_later : {l : Line} {ls ms : List Line} → Filled s ls ms → Filled s (l ∷ ls) (l ∷ ms)

-- the lowest empty line
pub filled_at : (s : ShownLeg) (ls : List Line) (i : ℕ) → place_from is_empty 0 ls ≡ Some i → Filled s ls (set ls i (Some s))
unfolding place_from
filled_at s [] i e = let z : ◌≡◌ {A = ℕ} 0 1 = cc in absurd (omega arith)
filled_at s (None ∷ ls) i e = let z : 0 ≡ i = cc in subst (λ (j : ℕ). Filled s (None ∷ ls) (set (None ∷ ls) j (Some s))) z fills
filled_at s (Some y ∷ ls) i e = go (place_from is_empty 0 ls) (filled_at s ls) (sym (place_cons is_empty (Some y) ls) ∙ e)
  where
    go : (o : Option ℕ) → ((j : ℕ) → o ≡ Some j → Filled s ls (set ls j (Some s))) → option_map suc o ≡ Some i → Filled s (Some y ∷ ls) (set (Some y ∷ ls) i (Some s))
    go None f h = let z : ◌≡◌ {A = ℕ} 0 1 = cc in absurd (omega arith)
    go (Some j) f h =
        let z : suc j ≡ i = cc in
        subst (λ (k : ℕ). Filled s (Some y ∷ ls) (set (Some y ∷ ls) k (Some s))) z (fills_later (f j refl))

pub mem_filled : {s : ShownLeg} {ls ms : List Line} → Filled s ls ms → {x : ShownLeg} → Memᴰ (Some x) ms → (x ≡ s) ⊎ Memᴰ (Some x) ls
mem_filled (fills {ls = ls}) {x} m = go m
  where
    go : {s : ShownLeg} → Memᴰ (Some x) (Some s ∷ ls) → (x ≡ s) ⊎ Memᴰ (Some x) (None ∷ ls)
    go (Memᴰ.head e) = inl cc
    go (Memᴰ.tail k) = inr (Memᴰ.tail k)
mem_filled {s} (fills_later {l = l} {ls = ls} {ms = ms} f) {x} m = go m (mem_filled f {x = x})
  where
    later : (x ≡ s) ⊎ Memᴰ (Some x) ls → (x ≡ s) ⊎ Memᴰ (Some x) (l ∷ ls)
    later (inl e) = inl e
    later (inr k) = inr (Memᴰ.tail k)

    go : Memᴰ (Some x) (l ∷ ms) → (Memᴰ (Some x) ms → (x ≡ s) ⊎ Memᴰ (Some x) ls) → (x ≡ s) ⊎ Memᴰ (Some x) (l ∷ ls)
    go (Memᴰ.head e) g = inr (Memᴰ.head e)
    go (Memᴰ.tail k) g = later (g k)

pub any_filled : (n : ℕ) {s : ShownLeg} {ls ms : List Line} → Filled s ls ms → any (shows n) ms ≡ (eqb n s.leg || any (shows n) ls)
any_filled n fills = refl
any_filled n {s} (fills_later {l = l} {ls = ls} f) = ap (λ (b : Bool). shows n l || b) (any_filled n f) ∙ or_swap (shows n l) (eqb n s.leg) (any (shows n) ls)

pub once_filled : {s : ShownLeg} {ls ms : List Line} → Filled s ls ms → any (shows s.leg) ls ≡ false → distinct same_leg (shown_legs ls) ≡ true → distinct same_leg (shown_legs ms) ≡ true
once_filled {s} (fills {ls = ls}) a h = both (ap not (shown_any s.leg ls ∙ a)) h
once_filled (fills_later {l = None} f) a h = once_filled f a h
once_filled {s} (fills_later {l = Some y} {ls = ls} {ms = ms} f) a h =
    both (ap not apart) (once_filled f (or_false (eqb s.leg y.leg) _ a).1 (right (not (any (same_leg y) (shown_legs ls))) _ h))
  where
    apart : any (same_leg y) (shown_legs ms) ≡ false
    apart =
        shown_any y.leg ms ∙ any_filled y.leg f
        ∙ neither (eqb_sym y.leg s.leg ∙ (or_false (eqb s.leg y.leg) _ a).0) (sym (shown_any y.leg ls) ∙ is_not (left (not (any (same_leg y) (shown_legs ls))) _ h))
