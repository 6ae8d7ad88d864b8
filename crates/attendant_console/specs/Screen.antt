-- The attendant's screen: what its lines show, pinning a leg, and the lines after an event (document 02, slip 12).
use Rattle.std.specs.Prelude.{ℕ, Bool, cond, is_none, List, map, eqb, replicate, set, option_map, None, Option, Some, Result, Ok, Err}
use Rattle.octets.specs.Lists.{any, find, place_from}
use Rattle.octets.specs.Tests.{has, bind_option}
use Rattle.board.specs.declared.Row.{Row}
use Rattle.board.specs.declared.Board.{Board}
use Rattle.board.specs.declared.Connection.{Connection}
use Rattle.board.specs.declared.Connection.TheVariants.{WithUser, WithPartner}
use Rattle.board.specs.declared.Entry.{Entry}
use Rattle.board.specs.Entries.{taken, has_leg}
use Rattle.board.specs.Soundness.{sound}
use Rattle.events.specs.declared.Refusal.TheVariants as refusal
use Rattle.events.specs.Refusals.{refusal_number}
use Rattle.rules.specs.Step.{Outcome}
use Rattle.attendant_console.specs.declared.ShownAs.{ShownAs}
use Rattle.attendant_console.specs.declared.ShownAs.TheVariants as shown
use Rattle.attendant_console.specs.declared.ShownLeg.{ShownLeg}
use Rattle.attendant_console.specs.declared.Screen.{Screen}
use Rattle.attendant_console.specs.declared.NotPinned.{NotPinned}
use Rattle.attendant_console.specs.declared.NotPinned.TheVariants.{UnsoundBoard, NotOnBoard, AlreadyPinned, NoEmptyLine}

-- "each empty or showing one leg": the term "line"
abbrev pub Line : Type 0
Line = Option ShownLeg

-- "16 screen lines", empty
abbrev pub empty_lines : List Line
empty_lines = replicate 16 None

-- ---- what the board says of a leg

-- "with the served user, joined, or joined and alerting"
abbrev pub shown_as : Connection → ShownAs
shown_as (WithUser c) = shown.WithUser
shown_as (WithPartner p a) = cond a shown.JoinedAlerting shown.Joined

abbrev pub shown_entry : Entry → ShownLeg
shown_entry e = record { leg = e.leg; shown_as = shown_as e.connection }

abbrev pub shown_among : List Row → ℕ → Line
shown_among rows n = option_map shown_entry (find (has_leg n) (taken rows))

-- "the leg as the board has it", if it has it
unfoldable pub shown_on : Board → ℕ → Line
shown_on b n = shown_among b.rows n

-- ---- to pin

-- the line shows that leg
abbrev pub shows : ℕ → Line → Bool
shows n l = has (λ (s : ShownLeg). eqb n s.leg) l

abbrev pub is_empty : Line → Bool
is_empty l = is_none l

-- the numbers of the refusals
abbrev pub not_pinned_number : NotPinned → ℕ
not_pinned_number UnsoundBoard = refusal_number refusal.UnsoundBoard
not_pinned_number NotOnBoard = 16
not_pinned_number AlreadyPinned = 17
not_pinned_number NoEmptyLine = 18

-- what pinning gives: a number and the lines
pub record Pinned : Type 0 where
  pub returned : ℕ
  pub lines : List Line

-- "A refusal .. leaves the screen"
abbrev pub not_pinned : NotPinned → List Line → Pinned
not_pinned r ls = record { returned = not_pinned_number r; lines = ls }

-- "the lowest empty line shows the leg"
abbrev pub shown_at_place : ShownLeg → Option ℕ → List Line → Pinned
shown_at_place s None ls = not_pinned NoEmptyLine ls
shown_at_place s (Some i) ls = record { returned = 0; lines = set ls i (Some s) }

-- "to pin, 2 for a board not sound, then 16 for a leg not on it, then 17 if already pinned, then 18 with all lines used"
abbrev pub pin_as : Line → ℕ → List Line → Pinned
pin_as None n ls = not_pinned NotOnBoard ls
pin_as (Some s) n ls = cond (any (shows n) ls) (not_pinned AlreadyPinned ls) (shown_at_place s (place_from is_empty 0 ls) ls)

unfoldable pub pin : List Line → Board → ℕ → Pinned
pin ls b n = cond (sound b) (pin_as (shown_on b n) n ls) (not_pinned UnsoundBoard ls)

-- the number and the lines that each case of the code's answer stands for
abbrev pub pin_number : {A : Type 0} → Result A NotPinned → ℕ
pin_number (Ok x) = 0
pin_number (Err r) = not_pinned_number r

abbrev pub pinned_answer : {A : Type 0} → Result A NotPinned → Screen → Pinned
pinned_answer r s = record { returned = pin_number r; lines = s.lines }

-- ---- after an event

-- "a line keeps its leg, shown as the board now has it, exactly if the board after the event has that leg, whether or not
-- it had it before; every other line is empty"
abbrev pub redrawn_line : Board → Line → Line
redrawn_line b l = bind_option (λ (s : ShownLeg). shown_on b s.leg) l

-- "After each accepted event"; "A refusal, an event's too, leaves the screen"
unfoldable pub lines_after : Outcome → List Line → List Line
lines_after o ls = cond (eqb o.returned 0) (map (redrawn_line o.board) ls) ls
