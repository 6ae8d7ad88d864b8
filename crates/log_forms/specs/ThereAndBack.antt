-- What is claimed of a log moved there and back (document 02, slip 8).
use Rattle.std.specs.Prelude.{ℕ, Bool, false, ◌&&◌, not, ◌≡◌, List, [], ◌∷◌, ◌++◌, eqb, get_or, is_none}
use Rattle.octets.specs.Lists.{all}
use Rattle.board.specs.Making.{ForOldLog, options, takes}
use Rattle.events.specs.Records.{records}
use Rattle.log_forms.specs.declared.Form.{Form}
use Rattle.log_forms.specs.declared.Form.TheVariants.{New}
use Rattle.log_forms.specs.Moving.{moved_records, first_bad}
use Rattle.log_forms.specs.MoveCalls.{MoveCall, option_octets, behind_options, move_number, move_written}

-- no "missing or bad option octets", and none of "3, 4 and 5"
abbrev pub good : List ℕ → Bool
good [] = false
good (s ∷ []) = false
good (s ∷ (a ∷ later)) = takes ForOldLog (options s a) && is_none (first_bad New 0 (records later))

-- "provided it held no event 9"
abbrev pub no_event_9 : List ℕ → Bool
no_event_9 log = all (λ (r : List ℕ). not (eqb (get_or r 0 0) 9)) (records (behind_options log))

-- the options, which stay, and the records in that form
abbrev pub moved_octets : Form → List ℕ → List ℕ
moved_octets form log = option_octets log ++ moved_records form (records (behind_options log))

-- of a log moved to the new form and of what was written moved to the old one: "Old to new and back gives the same log"
pub record SameLog (there back : MoveCall) : Type 0 where
  pub moved : move_number there ≡ 0
  pub moved_back : move_number back ≡ 0
  pub same : move_written back ≡ there.log
