-- Logs moved, computed (document 02, slip 8).
use Rattle.std.specs.Prelude.{ℕ, ◌≡◌, List, [], ◌∷◌, ◌++◌, take, replicate, Result, Ok, Err}
use Rattle.events.specs.declared.Refusal.TheVariants.{WrongLength, UnknownKind, FieldOutOfRange}
use Rattle.log_forms.specs.declared.Form.{Form}
use Rattle.log_forms.specs.declared.Form.TheVariants.{Old, New}
use Rattle.log_forms.specs.declared.Fault.{Fault}
use Rattle.log_forms.specs.declared.Fault.TheVariants.{Unreadable, NoOldForm}
use Rattle.log_forms.specs.declared.NotMoved.{NotMoved}
use Rattle.log_forms.specs.declared.NotMoved.TheVariants.{BadOptions, Bad, TargetTooSmall}
use Rattle.log_forms.specs.Moving.{moved_log}

-- an Open with the digits 21, as event 1 and as event 9
abbrev pub open_1 : List ℕ
open_1 = 1 ∷ 0 ∷ 1 ∷ 0 ∷ 0 ∷ 0 ∷ 7 ∷ 0 ∷ 0 ∷ 2 ∷ 0x32 ∷ 0x31 ∷ replicate 13 0

abbrev pub open_9 : ℕ → List ℕ
open_9 t = 9 ∷ 0 ∷ 1 ∷ 0 ∷ 0 ∷ 0 ∷ 7 ∷ 0 ∷ 0 ∷ t ∷ 2 ∷ 0x32 ∷ 0x31 ∷ replicate 13 0

-- records behind the options 1 and 0, into a target of so many octets
abbrev pub moved : Form → List ℕ → ℕ → Result (List ℕ) NotMoved
moved form rs room = moved_log form (1 ∷ 0 ∷ rs) room

abbrev pub bad : ℕ → Fault → Result (List ℕ) NotMoved
bad n f = Err (Bad (record { number = n; fault = f }))

pub record MovingExamples : Type 0 where
  -- "old form to new turns each event 1 into an event 9 of type 0; new to old turns each event 9 of type 0 into an event
  -- 1"; what is of the form that comes out stays
  pub to_new : moved New (open_1 ++ open_9 2) 54 ≡ Ok (1 ∷ 0 ∷ (open_9 0 ++ open_9 2))
  pub to_old : moved Old (open_9 0 ++ open_1) 52 ≡ Ok (1 ∷ 0 ∷ (open_1 ++ open_1))
  pub options_alone : moved New [] 2 ≡ Ok (1 ∷ 0 ∷ [])
  -- "a separate opening for old logs takes 0, 1 or 2" (slip 9)
  pub explicit_only : moved_log New (2 ∷ 3 ∷ []) 2 ≡ Ok (2 ∷ 3 ∷ [])
  -- "5 for missing or bad option octets"
  pub options_missing : moved_log New (1 ∷ []) 99 ≡ Err BadOptions
  pub options_bad : moved_log Old (3 ∷ 0 ∷ open_1) 99 ≡ Err BadOptions
  -- "3, 4 and 5 at the first bad record, where on the way back an event 9 of type 1 or 2 is bad too and gives 13 if it
  -- has none of those three"
  pub type_before_unknown : moved Old (open_9 1 ++ (0 ∷ [])) 99 ≡ bad 1 NoOldForm
  pub unknown_before_type : moved Old (0 ∷ open_9 1) 99 ≡ bad 1 (Unreadable UnknownKind)
  pub second_record : moved Old (open_1 ++ open_9 2) 99 ≡ bad 2 NoOldForm
  pub type_3 : moved Old (open_9 3) 99 ≡ bad 1 (Unreadable FieldOutOfRange)
  pub cut_of_type_1 : moved Old (take 25 (open_9 1)) 99 ≡ bad 1 (Unreadable WrongLength)
  -- "last 1 for a target too small"
  pub one_short : moved New open_1 27 ≡ Err TargetTooSmall
  pub bad_in_no_room : moved New (0 ∷ []) 0 ≡ bad 1 (Unreadable UnknownKind)
