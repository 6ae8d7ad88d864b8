-- What is claimed of the screen after whole lists of pins and events (document 02, slip 12): `screen_agrees`.
use Rattle.std.specs.Prelude.{ℕ, ◌≡◌, ◌↔◌, Bool, true, false, ◌&&◌, not, List, [], ◌∷◌, ◌++◌, eqb, T, Some, Result}
use mathlib.Core.List.{Memᴰ}
use Rattle.octets.specs.Lists.{any, distinct, filter_map}
use Rattle.board.specs.declared.Board.{Board}
use Rattle.rules.specs.History.{on_board, Partners}
use Rattle.ect.specs.CallHistory.{StepCall}
use Rattle.attendant_console.specs.declared.ShownAs.TheVariants.{WithUser, Joined, JoinedAlerting}
use Rattle.attendant_console.specs.declared.ShownAs.{ShownAs}
use Rattle.attendant_console.specs.declared.ShownLeg.{ShownLeg}
use Rattle.attendant_console.specs.declared.Screen.{Screen}
use Rattle.attendant_console.specs.declared.NotPinned.{NotPinned}
use Rattle.attendant_console.specs.Screen.{Line, shown_on, shows, pin_number}

-- ---- lists of pins and events, each on the screen and the board that the last one left

-- a call of `pin`: the leg, what was returned, and the screen afterwards
pub record PinCall : Type 0 where
  pub leg : ℕ
  pub returned : Result (Unit {0}) NotPinned
  pub screen : Screen

-- a call of `play`: event, buffer and what was returned, as in a call of `step`, and the screen afterwards
pub record PlayCall : Type 0 where
  pub step : StepCall
  pub screen : Screen

pub data ConsoleCall : Type 0 where
  Pin : PinCall → ConsoleCall
  Play : PlayCall → ConsoleCall

-- the board that a call leaves: a pin leaves it as it is
abbrev pub board_left : Board → ConsoleCall → Board
board_left b (Pin c) = b
board_left b (Play c) = c.step.returned.board

abbrev pub screen_left : ConsoleCall → Screen
screen_left (Pin c) = c.screen
screen_left (Play c) = c.screen

unfoldable pub board_after : Board → List ConsoleCall → Board
board_after b [] = b
board_after b (c ∷ cs) = board_after (board_left b c) cs

unfoldable pub screen_after : Screen → List ConsoleCall → Screen
screen_after s [] = s
screen_after s (c ∷ cs) = screen_after (screen_left c) cs

-- ---- what the lines say

abbrev pub shown_legs : List Line → List ShownLeg
shown_legs ls = filter_map (λ (l : Line). l) ls

abbrev pub same_leg : ShownLeg → ShownLeg → Bool
same_leg s t = eqb s.leg t.leg

abbrev pub is_joined : ShownAs → Bool
is_joined WithUser = false
is_joined Joined = true
is_joined JoinedAlerting = true

abbrev pub is_alerting : ShownAs → Bool
is_alerting WithUser = false
is_alerting Joined = false
is_alerting JoinedAlerting = true

-- the leg was pinned, and after each call since the board has had it, from the board b on
pub record PinnedSince (b : Board) (calls : List ConsoleCall) (l : ℕ) : Type 0 where
  pub before : List ConsoleCall
  pub pinning : PinCall
  pub since : List ConsoleCall
  pub place : calls ≡ before ++ (Pin pinning ∷ since)
  pub leg : pinning.leg ≡ l
  pub accepted : pin_number pinning.returned ≡ 0
  pub on_board_since : (mid rest : List ConsoleCall) → since ≡ mid ++ rest → T (on_board (board_after b (before ++ (Pin pinning ∷ mid))) l)

-- ---- the statement, of the screen s and of the calls that led to it from the board b

pub record ScreenAgrees (b : Board) (calls : List ConsoleCall) (s : Screen) : Type 0 where
  -- no leg on two lines: "It shows each far party once, under one partner" (the demands)
  pub no_leg_twice : T (distinct same_leg (shown_legs s.lines))
  -- each line shows its leg as the board has it
  pub as_on_board : (x : ShownLeg) → Memᴰ (Some x) s.lines → shown_on (board_after b calls) x.leg ≡ Some x
  -- a leg that is shown joined has a partner, and where a line shows that one, it shows it joined, one of the two at most
  -- alerting
  pub partner : (x : ShownLeg) → Memᴰ (Some x) s.lines → T (is_joined x.shown_as) →
      (m : ℕ) × Partners (board_after b calls) x.leg m
      × ((y : ShownLeg) → Memᴰ (Some y) s.lines → y.leg ≡ m → T (is_joined y.shown_as) × T (not (is_alerting x.shown_as && is_alerting y.shown_as)))
  -- "It follows the legs that the attendant pins": the lines show just the legs that were pinned and have been on the
  -- board since
  pub followed : (l : ℕ) → T (any (shows l) s.lines) ↔ PinnedSince b calls l
