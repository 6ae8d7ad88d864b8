-- What the code's effect of an event says: the answer, the board and the replies of a decision.
use Rattle.std.specs.Prelude.{ℕ, ◌≡◌, List, Option, None, Some, Result, Ok, Err}
use Rattle.board.specs.declared.Direction.{Direction}
use Rattle.board.specs.declared.PartyNumber.{PartyNumber}
use Rattle.board.specs.declared.Row.{Row}
use Rattle.board.specs.declared.Board.{Board}
use Rattle.board.specs.declared.Party.{Party}
use Rattle.octets.specs.Lists.{any}
use Rattle.board.specs.Entries.{has_leg, has_reference}
use Rattle.board.specs.States.{delivered}
use Rattle.board.specs.Changes.{full, enter, changed_rows, with_rows}
use Rattle.rules.specs.Replies.{number_at}
use Rattle.rules.specs.Checks as checks
use Rattle.rules.specs.Checks.{Decision, Refuse, Accept, assigned_by, opened, opening, named, decide_open, decide_facility}
use Rattle.rules.specs.Step.{entered_row, candidate_by}
use Rattle.effects.specs.declared.ChangeKind.{ChangeKind}
use Rattle.effects.specs.declared.ChangeKind.TheVariants.{Enter, Apply}
use Rattle.effects.specs.declared.Effect.{Effect}
use Rattle.events.specs.declared.Refusal.{Refusal}
use Rattle.replies.specs.declared.Out.{Out}
use Rattle.replies.specs.declared.FarParty.{FarParty}
use Rattle.replies.specs.declared.NumberedLeg.{NumberedLeg}
use Rattle.replies.specs.Code.Writing.{rendered}
use Rattle.serving.specs.Code.Parties.{entries_of}

-- the row that an Open enters
abbrev pub opened_row : ℕ → ℕ → Direction → PartyNumber → Row
opened_row r l d n = entered_row (record { leg = l; call = opened r d }) n

abbrev pub effect : Option ChangeKind → Out → Effect
effect c o = record { change = c; out = o }

-- a decision's change as the code says it, with the row that it enters
abbrev pub change_in : Option checks.BoardChange → Option ChangeKind
change_in None = None
change_in (Some (checks.Enter p n)) = Some (Enter (entered_row p n))
change_in (Some (checks.Apply c)) = Some (Apply c)

-- the change that comes of an effect: none, where it is refused
abbrev pub change_by : Result Effect Refusal → Option ChangeKind
change_by (Err c) = None
change_by (Ok e) = e.change

-- the board that a change makes of b
abbrev pub board_by : Option ChangeKind → Board → Board
board_by None b = b
board_by (Some (Enter row)) b = with_rows (enter row b.rows) b
board_by (Some (Apply c)) b = record { rows = changed_rows c b.rows; options = b.options; candidate = candidate_by (assigned_by c) b.candidate }

-- the refusal of a decision, or the effect of one that accepts: the replies are those for the rows
abbrev pub effect_by : List Row → Decision → Result Effect Refusal
effect_by rows (Refuse c) = Err c
effect_by rows (Accept c w) = Ok (effect (change_in c) (rendered (w (number_at rows))))

-- the effect of the decision d on the board b
pub record EffectOf (r : Result Effect Refusal) (b : Board) (d : Decision) : Type 0 where
  pub is : r ≡ effect_by b.rows d

-- the effect of the decision, whatever the board
abbrev pub EffectAnywhere : Result Effect Refusal → Decision → Type 0
EffectAnywhere r d = (b : Board) → EffectOf r b d

-- the value f stands for the party p at its row
pub record Describes (rows : List Row) (p : Party) (f : FarParty) : Type 0 where
  pub reference : f.reference ≡ p.call.reference
  pub leg : f.leg ≡ p.leg
  pub alerts : f.alerts ≡ delivered p.call
  pub number : f.number ≡ number_at rows p.leg

-- a leg, with the number of its party
abbrev pub numbered : List Row → ℕ → NumberedLeg
numbered rows l = record { leg = l; number = number_at rows l }

-- what an Open and a Facility come to on the board, with the fields of their records
abbrev pub open_on : Board → ℕ → ℕ → Direction → PartyNumber → Decision
open_on b r l d n =
    decide_open (any (has_leg l) (entries_of b)) (any (has_reference r) (entries_of b)) (full b.rows) (opening r l d n)

abbrev pub facility_on : Board → ℕ → List ℕ → Decision
facility_on b r c = decide_facility b.options b.candidate.0 (entries_of b) c (named r (entries_of b))
