-- `screen_agrees` over the contracts: of the screen that `empty_screen` gave, of the board that either opening returned, and of what every list of calls of `pin` and `play` returned and left.
use Prim.{tt}
use Rattle.std.specs.Prelude.{Result}
use Prim.Native.Nat.{ℕ}
use native.Mathlib.Omega.{arith}
use mathlib.Core.Path.{◌≡◌, ◌∙◌, ap, ap₂, refl, sym, subst, subst⁻¹}
use mathlib.Core.Logic.{◌⊎◌, inl, inr}
use mathlib.Core.Bool.{or-false, Bool, true, false, ◌&&◌, ◌||◌}
use mathlib.Core.List.{List, [], ◌∷◌, ◌++◌}
use lib.Dec.{eqb, T}
use lib.ListN.{length}
use base.Fml.{GName}
use contract.Lifetimes.{Lfts}
use denote.Bor.{Bor}
use denote.MutBor.{MutBor}
use Rattle.octets.proofs.Lent.{lent, lent_shared}
use Rattle.octets.proofs.Lists.{is_true, from_true, left, right, both, or_cases, or_left, or_right, eqb_eq, eqb_of}
use Rattle.octets.specs.Lists.{any}
use Rattle.board.specs.declared.Board.{Board}
use Rattle.board.specs.declared.BadOptions.{BadOptions}
use Rattle.board.specs.Making.{Opening, Live, ForOldLog, Made, fresh}
use Rattle.rules.specs.History.{on_board}
use Rattle.rules.specs.Step.{step}
use Rattle.board.proofs.Promises.{fresh_promise, fresh_for_old_log_promise}
use Rattle.ect.proofs.CallHistory.{board_in, OpeningContractMet}
use Rattle.attendant_console.specs.declared.Screen.{Screen}
use Rattle.attendant_console.specs.Contract.{PlaysOnScreen}
use Rattle.attendant_console.specs.Screen.{Line, Pinned, shows, pin, pinned_answer, pin_number, empty_lines}
use Rattle.attendant_console.specs.ScreenAgrees.{PinCall, PlayCall, ConsoleCall, Pin, Play, board_left, screen_left, board_after, screen_after, PinnedSince, ScreenAgrees}
use Rattle.attendant_console.proofs.Following.{Follows, shown_there, shown_still, follows_first, pin_follows, pin_shows, event_follows, event_shows, partner_of}
use Rattle.attendant_console.proofs.empty_screen.Reads as empty-screen-contract
use Rattle.attendant_console.proofs.pin.Reads as pin-contract
use Rattle.attendant_console.proofs.play.Reads as play-contract

-- ---- the premises

-- a reference to a screen that may be written, and one to a board that is only read, wherever they lie
abbrev pub lent_screen : (ℕ × ℕ) × GName → Screen → MutBor Screen
lent_screen at s = record { ref_ptr = at.0; ghost_name = at.1; now = s }

abbrev pub lent_board : ℕ × ℕ → Board → Bor Board
lent_board at b = record { ref_ptr = at; now = b }

-- the screen met the contract of `empty_screen`
abbrev pub EmptyScreenContractMet : Screen → Type 0
EmptyScreenContractMet s = empty-screen-contract.Post tt tt s tt

-- the call of `pin` on the screen s and the board b met its contract
pub record PinContractMet (s : Screen) (b : Board) (c : PinCall) : Type 0 where
  pub lifetimes : Lfts 2
  pub screen_at : (ℕ × ℕ) × GName
  pub board_at : ℕ × ℕ
  pub met :
      pin-contract.Post lifetimes (lent_screen screen_at s, (lent_board board_at b, (c.leg, tt))) c.returned
      (lent_screen screen_at c.screen, (lent_board board_at b, (c.leg, tt)))

-- the call of `play` on the screen s and the board b met its contract
pub record PlayContractMet (s : Screen) (b : Board) (c : PlayCall) : Type 0 where
  pub lifetimes : Lfts 3
  pub screen_at : (ℕ × ℕ) × GName
  pub event_at : ℕ × ℕ
  pub buffer_at : (ℕ × ℕ) × GName
  pub met :
      play-contract.Post lifetimes (lent_screen screen_at s, (b, (lent_shared event_at c.step.event, (lent buffer_at c.step.before, tt)))) c.step.returned
      (lent_screen screen_at c.screen, (b, (lent_shared event_at c.step.event, (lent buffer_at c.step.after, tt))))

abbrev pub CallMet : Screen → Board → ConsoleCall → Type 0
CallMet s b (Pin c) = PinContractMet s b c
CallMet s b (Play c) = PlayContractMet s b c

-- each call met its contract on the screen and the board that the last one left
unfoldable pub ConsoleChain : Screen → Board → List ConsoleCall → Type 0
ConsoleChain s b [] = Unit {0}
ConsoleChain s b (c ∷ cs) = CallMet s b c × ConsoleChain (screen_left c) (board_left b c) cs

-- ---- what a call does

-- the call pins the leg
abbrev pins : ConsoleCall → ℕ → Bool
pins (Pin c) l = eqb (pin_number c.returned) 0 && eqb c.leg l
pins (Play c) l = false

module _ {s : Screen} {b : Board} where
  pin_promise : {c : PinCall} → PinContractMet s b c → pinned_answer c.returned c.screen ≡ pin s.lines b c.leg
  pin_promise m = m.met

  play_promise : {c : PlayCall} → PlayContractMet s b c → PlaysOnScreen b c.step.event c.step.before s c.step.returned c.step.after c.screen
  play_promise m = m.met

  call_follows : (c : ConsoleCall) → CallMet s b c → Follows b s.lines → Follows (board_left b c) (screen_left c).lines
  call_follows (Pin c) m f = subst⁻¹ (λ (p : Pinned). Follows b p.lines) (pin_promise m) (pin_follows f c.leg)
  call_follows (Play c) m f =
      let p = play_promise m in
      subst⁻¹ (λ (a : Board). Follows a c.screen.lines) p.steps.board
      (subst⁻¹ (Follows (step b c.step.event (length c.step.before)).board) p.lines (event_follows f c.step.event (length c.step.before)))

  -- the screen shows the legs that it showed and that the board still has, and the leg that the call pins
  call_shows : (c : ConsoleCall) → CallMet s b c → Follows b s.lines → (l : ℕ) →
      any (shows l) (screen_left c).lines ≡ ((any (shows l) s.lines && on_board (board_left b c) l) || pins c l)
  call_shows (Pin c) m f l =
      ap (λ (p : Pinned). any (shows l) p.lines) (pin_promise m) ∙ pin_shows f c.leg l
      ∙ ap₂ ◌||◌ (shown_still f l) (ap (λ (p : Pinned). eqb p.returned 0 && eqb c.leg l) (sym (pin_promise m)))
  call_shows (Play c) m f l =
      let p = play_promise m in
      ap (any (shows l)) p.lines ∙ event_shows f c.step.event (length c.step.before) l
      ∙ ap (λ (a : Board). any (shows l) s.lines && on_board a l) (sym p.steps.board) ∙ sym (or-false _)

-- ---- which legs a list of calls leaves on the screen

-- the board has the leg, and has it after each of the calls
record Stays (b : Board) (calls : List ConsoleCall) (l : ℕ) : Type 0 where
  pub after : (mid rest : List ConsoleCall) → calls ≡ mid ++ rest → T (on_board (board_after b mid) l)

-- of lines at the start: they show the leg, and it stays, or it is pinned later, and stays from then on
abbrev Shown : List Line → Board → List ConsoleCall → ℕ → Type 0
Shown ls b calls l = (T (any (shows l) ls) × Stays b calls l) ⊎ PinnedSince b calls l

-- the call pins the leg, and it stays
abbrev PinnedBy : Board → ConsoleCall → List ConsoleCall → ℕ → Type 0
PinnedBy b c cs l = T (pins c l) × Stays (board_left b c) cs l

cons_apart : {c d : ConsoleCall} {cs ds : List ConsoleCall} → c ∷ cs ≡ d ∷ ds → (c ≡ d) × (cs ≡ ds)
cons_apart e = (cc, cc)

stays_nil : {b : Board} {l : ℕ} → T (on_board b l) → Stays b [] l
unfolding board_after
stays_nil {b} {l} h = record { after = go }
  where
    go : (mid rest : List ConsoleCall) → [] ≡ mid ++ rest → T (on_board (board_after b mid) l)
    go [] rest e = h
    go (d ∷ mid) rest e = absurd (let z = ap length e in omega arith)

stays_cons : {b : Board} {c : ConsoleCall} {cs : List ConsoleCall} {l : ℕ} → T (on_board b l) → Stays (board_left b c) cs l → Stays b (c ∷ cs) l
unfolding board_after
stays_cons {b} {c} {cs} {l} h k = record { after = go }
  where
    go : (mid rest : List ConsoleCall) → c ∷ cs ≡ mid ++ rest → T (on_board (board_after b mid) l)
    go [] rest e = h
    go (d ∷ mid) rest e = let p = cons_apart e in subst (λ (x : ConsoleCall). T (on_board (board_after (board_left b x) mid) l)) p.0 (k.after mid rest p.1)

stays_tail : {b : Board} {c : ConsoleCall} {cs : List ConsoleCall} {l : ℕ} → Stays b (c ∷ cs) l → Stays (board_left b c) cs l
unfolding board_after
stays_tail {c = c} k = record { after = λ mid rest e. k.after (c ∷ mid) rest (ap (λ (q : List ConsoleCall). c ∷ q) e) }

stays_now : {b : Board} {calls : List ConsoleCall} {l : ℕ} → Stays b calls l → T (on_board b l)
unfolding board_after
stays_now {calls = calls} k = k.after [] calls refl

pinned_nowhere : {b : Board} {l : ℕ} → PinnedSince b [] l → ⊥
pinned_nowhere r = go r.before r.place
  where
    go : (before : List ConsoleCall) → [] ≡ before ++ (Pin r.pinning ∷ r.since) → ⊥
    go [] e = let z = ap length e in omega arith
    go (d ∷ before) e = let z = ap length e in omega arith

-- pinned by the first call or by a later one
pinned_first : {b : Board} (c : ConsoleCall) {cs : List ConsoleCall} {l : ℕ} → PinnedBy b c cs l → PinnedSince b (c ∷ cs) l
unfolding board_after
pinned_first (Pin p) {cs} {l} h = record {
  before = [];
  pinning = p;
  since = cs;
  place = refl;
  leg = eqb_eq p.leg l (right (eqb (pin_number p.returned) 0) (eqb p.leg l) (is_true _ h.0));
  accepted = eqb_eq (pin_number p.returned) 0 (left (eqb (pin_number p.returned) 0) (eqb p.leg l) (is_true _ h.0));
  on_board_since = h.1.after;
}
pinned_first (Play p) h = absurd h.0

pinned_later : {b : Board} {c : ConsoleCall} {cs : List ConsoleCall} {l : ℕ} → PinnedSince (board_left b c) cs l → PinnedSince b (c ∷ cs) l
unfolding board_after
pinned_later {c = c} r = record {
  before = c ∷ r.before;
  pinning = r.pinning;
  since = r.since;
  place = ap (λ (q : List ConsoleCall). c ∷ q) r.place;
  leg = r.leg;
  accepted = r.accepted;
  on_board_since = r.on_board_since;
}

pinned_apart : {b : Board} {c : ConsoleCall} {cs : List ConsoleCall} {l : ℕ} → PinnedSince b (c ∷ cs) l → PinnedBy b c cs l ⊎ PinnedSince (board_left b c) cs l
unfolding board_after
pinned_apart {b} {c} {cs} {l} r = go r.before r.place r.on_board_since
  where
    pinning : T (pins (Pin r.pinning) l)
    pinning = from_true (both (eqb_of (pin_number r.pinning.returned) 0 r.accepted) (eqb_of r.pinning.leg l r.leg))

    go : (before : List ConsoleCall) → c ∷ cs ≡ before ++ (Pin r.pinning ∷ r.since) →
        ((mid rest : List ConsoleCall) → r.since ≡ mid ++ rest → T (on_board (board_after b (before ++ (Pin r.pinning ∷ mid))) l)) →
        PinnedBy b c cs l ⊎ PinnedSince (board_left b c) cs l
    go [] e h =
        let p = cons_apart e in
        inl (subst⁻¹ (λ (x : ConsoleCall). PinnedBy b x cs l) p.0 (pinning, record { after = λ mid rest q. h mid rest (sym p.1 ∙ q) }))
    go (d ∷ before) e h =
        let p = cons_apart e in
        inr (record {
          before = before;
          pinning = r.pinning;
          since = r.since;
          place = p.1;
          leg = r.leg;
          accepted = r.accepted;
          on_board_since = λ mid rest q. subst⁻¹ (λ (x : ConsoleCall). T (on_board (board_after (board_left b x) (before ++ (Pin r.pinning ∷ mid))) l)) p.0 (h mid rest q);
        })

-- ---- one call more, in front

module _ {s : Screen} {b : Board} {c : ConsoleCall} (m : CallMet s b c) (f : Follows b s.lines) (cs : List ConsoleCall) (l : ℕ) where
  shown_before : T (any (shows l) (screen_left c).lines) × Stays (board_left b c) cs l → Shown s.lines b (c ∷ cs) l
  shown_before h = go (or_cases (any (shows l) s.lines && on_board (board_left b c) l) (pins c l) (sym (call_shows c m f l) ∙ is_true _ h.0))
    where
      go : ((any (shows l) s.lines && on_board (board_left b c) l) ≡ true) ⊎ (pins c l ≡ true) → Shown s.lines b (c ∷ cs) l
      go (inl e) =
          let t = left (any (shows l) s.lines) (on_board (board_left b c) l) e in
          inl (from_true t, stays_cons (from_true (shown_there f l t)) h.1)
      go (inr e) = inr (pinned_first c (from_true e, h.1))

  shown_after : Shown s.lines b (c ∷ cs) l → Shown (screen_left c).lines (board_left b c) cs l
  shown_after (inl h) =
      let k = stays_tail h.1 in
      let t = both (is_true _ h.0) (is_true _ (stays_now k)) in
      inl (from_true (call_shows c m f l ∙ or_left (any (shows l) s.lines && on_board (board_left b c) l) (pins c l) t), k)
  shown_after (inr r) = go (pinned_apart r)
    where
      go : PinnedBy b c cs l ⊎ PinnedSince (board_left b c) cs l → Shown (screen_left c).lines (board_left b c) cs l
      go (inl h) = inl (from_true (call_shows c m f l ∙ or_right (any (shows l) s.lines && on_board (board_left b c) l) (pins c l) (is_true _ h.0)), h.1)
      go (inr k) = inr k

-- ---- whole lists

module _ (l : ℕ) where
  to_shown : {s : Screen} {b : Board} (calls : List ConsoleCall) → ConsoleChain s b calls → Follows b s.lines → T (any (shows l) (screen_after s calls).lines) → Shown s.lines b calls l
  unfolding ConsoleChain screen_after
  to_shown {s} {b} [] h f t = inl (t, stays_nil (from_true (shown_there f l (is_true _ t))))
  to_shown {s} {b} (c ∷ cs) h f t = go (to_shown {s = screen_left c} {b = board_left b c} cs h.1 (call_follows c h.0 f) t)
    where
      go : Shown (screen_left c).lines (board_left b c) cs l → Shown s.lines b (c ∷ cs) l
      go (inl k) = shown_before h.0 f cs l k
      go (inr k) = inr (pinned_later k)

  of_shown : {s : Screen} {b : Board} (calls : List ConsoleCall) → ConsoleChain s b calls → Follows b s.lines → Shown s.lines b calls l → T (any (shows l) (screen_after s calls).lines)
  unfolding ConsoleChain screen_after
  of_shown {s} {b} [] h f (inl k) = k.0
  of_shown {s} {b} [] h f (inr r) = absurd (pinned_nowhere r)
  of_shown {s} {b} (c ∷ cs) h f k = of_shown {s = screen_left c} {b = board_left b c} cs h.1 (call_follows c h.0 f) (shown_after h.0 f cs l k)

last_follows : {s : Screen} {b : Board} (calls : List ConsoleCall) → ConsoleChain s b calls → Follows b s.lines → Follows (board_after b calls) (screen_after s calls).lines
unfolding ConsoleChain board_after screen_after
last_follows {s} {b} [] h f = f
last_follows {s} {b} (c ∷ cs) h f = last_follows {s = screen_left c} {b = board_left b c} cs h.1 (call_follows c h.0 f)

-- ---- the theorem

board_opened : (way : Opening) (s a : ℕ) (made : Result Board BadOptions) → OpeningContractMet way s a made → board_in made ≡ (fresh way s a).board
board_opened Live s a made f = ap (λ (m : Made). m.board) (fresh_promise s a made f)
board_opened ForOldLog s a made f = ap (λ (m : Made). m.board) (fresh_for_old_log_promise s a made f)

-- for either opening and all option octets, whatever it returned by its contract, and for every list of calls that begins with the board in it and with the first screen
pub screen_agrees : (way : Opening) (s a : ℕ) (made : Result Board BadOptions) → OpeningContractMet way s a made →
    (first : Screen) → EmptyScreenContractMet first →
    (calls : List ConsoleCall) → ConsoleChain first (board_in made) calls → ScreenAgrees (board_in made) calls (screen_after first calls)
screen_agrees way s a made o first e calls h =
    record {
      no_leg_twice = from_true last.once;
      as_on_board = last.each;
      partner = partner_of last;
      followed = λ l. (λ t. pinned l (to_shown l calls h begins t), λ r. of_shown l calls h begins (inr r));
    }
  where
    lines_are : first.lines ≡ empty_lines
    lines_are = e

    begins : Follows (board_in made) first.lines
    begins = subst⁻¹ (λ (b : Board). Follows b first.lines) (board_opened way s a made o) (subst⁻¹ (Follows (fresh way s a).board) lines_are (follows_first way s a))

    last : Follows (board_after (board_in made) calls) (screen_after first calls).lines
    last = last_follows calls h begins

    pinned : (l : ℕ) → Shown first.lines (board_in made) calls l → PinnedSince (board_in made) calls l
    pinned l (inl k) = absurd (subst (λ (ls : List Line). T (any (shows l) ls)) lines_are k.0)
    pinned l (inr r) = r
