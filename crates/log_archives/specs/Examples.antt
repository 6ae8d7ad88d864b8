-- Logs packed and archives unpacked, computed (document 02, slip 11).
use Rattle.std.specs.Prelude.{ℕ, ◌≡◌, List, [], ◌∷◌, ◌++◌, take, Result, Ok, Err}
use Rattle.events.specs.declared.Refusal.{Refusal}
use Rattle.events.specs.declared.Refusal.TheVariants.{WrongLength, UnknownKind as KindUnknown, FieldOutOfRange}
use Rattle.log_archives.specs.declared.NotRegrouped.{NotRegrouped}
use Rattle.log_archives.specs.declared.NotRegrouped.TheVariants.{Unfit, CutShort, UnknownKind, BodiesDisagree, Bad, TargetTooSmall}
use Rattle.log_archives.specs.Judging.{packed, unpacked}
use Rattle.log_archives.specs.Contract.{not_regrouped_number}

-- Releases of two legs, and between them a Progress: kinds 4, 2 and 4
abbrev pub three_records : List ℕ
three_records = (4 ∷ 1 ∷ 2 ∷ 3 ∷ 4 ∷ []) ++ ((2 ∷ 0 ∷ 1 ∷ 10 ∷ []) ++ (4 ∷ 5 ∷ 6 ∷ 7 ∷ 8 ∷ []))

abbrev pub log : List ℕ
log = 2 ∷ 3 ∷ three_records

-- the count, the kinds, the body of the kind 2, and the columns of the bodies of the kind 4
abbrev pub archive : List ℕ
archive = 2 ∷ 3 ∷ 0 ∷ 0 ∷ 0 ∷ 3 ∷ 4 ∷ 2 ∷ 4 ∷ 0 ∷ 1 ∷ 10 ∷ 1 ∷ 5 ∷ 2 ∷ 6 ∷ 3 ∷ 7 ∷ 4 ∷ 8 ∷ []

abbrev pub bad : ℕ → Refusal → Result (List ℕ) NotRegrouped
bad n c = Err (Bad (record { number = n; refusal = c }))

pub record ArchiveExamples : Type 0 where
  pub packs : packed log 20 ≡ Ok archive
  pub unpacks : unpacked archive 16 ≡ Ok log
  pub empty_packed : packed (0 ∷ 0 ∷ []) 6 ≡ Ok (0 ∷ 0 ∷ 0 ∷ 0 ∷ 0 ∷ 0 ∷ [])
  pub empty_unpacked : unpacked (0 ∷ 0 ∷ 0 ∷ 0 ∷ 0 ∷ 0 ∷ []) 2 ≡ Ok (0 ∷ 0 ∷ [])
  -- "5 if it has fewer than two octets .. or bad options"
  pub one_octet : packed (1 ∷ []) 99 ≡ Err Unfit
  pub bad_options : packed (3 ∷ 0 ∷ three_records) 99 ≡ Err Unfit
  pub archive_of_one_octet : unpacked (1 ∷ []) 99 ≡ Err Unfit
  pub archive_of_bad_options : unpacked (0 ∷ 4 ∷ 0 ∷ []) 99 ≡ Err Unfit
  -- "then 3, 4 and 5 at the first bad record"
  pub cut : packed (log ++ (4 ∷ 1 ∷ [])) 99 ≡ bad 4 WrongLength
  pub unknown : packed (log ++ (10 ∷ 2 ∷ [])) 99 ≡ bad 4 KindUnknown
  pub state_9 : packed (0 ∷ 0 ∷ 2 ∷ 0 ∷ 1 ∷ 9 ∷ 10 ∷ []) 99 ≡ bad 1 FieldOutOfRange
  -- "3 if the count or the kinds are cut short"
  pub no_count : unpacked (1 ∷ 0 ∷ []) 99 ≡ Err CutShort
  pub three_of_four : unpacked (1 ∷ 0 ∷ 0 ∷ 0 ∷ 0 ∷ []) 99 ≡ Err CutShort
  pub largest_count : unpacked (1 ∷ 0 ∷ 255 ∷ 255 ∷ 255 ∷ 255 ∷ 10 ∷ []) 99 ≡ Err CutShort
  -- "4 for an unknown kind, 3 where the bodies' length disagrees with the kinds, then 5 for a bad field in any record"
  pub unknown_second : unpacked (1 ∷ 0 ∷ 0 ∷ 0 ∷ 0 ∷ 2 ∷ 2 ∷ 10 ∷ []) 99 ≡ Err (UnknownKind 2)
  pub one_octet_short : unpacked (take 19 archive) 99 ≡ Err BodiesDisagree
  pub one_octet_over : unpacked (archive ++ (0 ∷ [])) 99 ≡ Err BodiesDisagree
  pub short_of_state_9 : unpacked (1 ∷ 0 ∷ 0 ∷ 0 ∷ 0 ∷ 2 ∷ 2 ∷ 2 ∷ 0 ∷ 0 ∷ 1 ∷ 2 ∷ 9 ∷ []) 99 ≡ Err BodiesDisagree
  pub second_state_9 : unpacked (1 ∷ 0 ∷ 0 ∷ 0 ∷ 0 ∷ 2 ∷ 2 ∷ 2 ∷ 0 ∷ 0 ∷ 1 ∷ 2 ∷ 10 ∷ 9 ∷ []) 99 ≡ bad 2 FieldOutOfRange
  -- "in each case 1 for a target too small, last"
  pub packed_too_small : packed log 19 ≡ Err TargetTooSmall
  pub unpacked_too_small : unpacked archive 15 ≡ Err TargetTooSmall
  pub bad_in_no_room : packed (0 ∷ 0 ∷ 10 ∷ []) 0 ≡ bad 1 KindUnknown
  pub disagree_in_no_room : unpacked (take 19 archive) 0 ≡ Err BodiesDisagree
  -- the numbers
  pub unfit_5 : not_regrouped_number Unfit ≡ 5
  pub cut_short_3 : not_regrouped_number CutShort ≡ 3
  pub unknown_4 : not_regrouped_number (UnknownKind 2) ≡ 4
  pub disagree_3 : not_regrouped_number BodiesDisagree ≡ 3
  pub too_small_1 : not_regrouped_number TargetTooSmall ≡ 1
