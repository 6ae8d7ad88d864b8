-- A long log moved by pieces is moved as a whole: over the contracts of `move_records` and `whole_records`. Assumes nothing.
use Prim.{tt}
use Prim.Native.Nat.{ℕ, suc, ◌+◌}
use native.Mathlib.Nat.{add_assoc, add-zero}
use native.Mathlib.Omega.{arith}
use mathlib.Core.Path.{◌≡◌, refl, ap, ap₂, sym, ◌∙◌}
use mathlib.Core.Bool.{Bool, true, false, cond}
use mathlib.Core.List.{List, [], ◌∷◌, ◌++◌, append_assoc, append-nil}
use lib.Dec.{leb}
use lib.ListN.{length, take, drop}
use lib.Seq.{take_at}
use base.Fml.{GName}
use contract.Lifetimes.{Lfts}
use Rattle.std.specs.Prelude.{None, Option, Some, Result, Ok, Err}
use Rattle.octets.proofs.Lent.{lent, lent_shared}
use Rattle.events.specs.Records.{records}
use Rattle.events.proofs.RefusalNumbers.{refusal_not_zero}
use Rattle.log_forms.specs.declared.Form.{Form}
use Rattle.log_forms.specs.declared.Fault.{Fault}
use Rattle.log_forms.specs.declared.Fault.TheVariants.{Unreadable, NoOldForm}
use Rattle.log_forms.specs.declared.BadRecord.{BadRecord}
use Rattle.log_forms.specs.declared.NotMoved.{NotMoved}
use Rattle.log_forms.specs.declared.NotMoved.TheVariants.{Bad, TargetTooSmall}
use Rattle.log_forms.specs.Moving.{moved_record, moved_records, fault, bad_or_later, first_bad, unless_bad, moved_behind}
use Rattle.log_forms.specs.Contract.{Moves, fault_number, answer_number, answer_count}
use Rattle.log_forms.specs.MoveCalls.{MoveCall, move_number, move_written}
use Rattle.log_forms.specs.Pieces.{records_of, written_by, AllMoved, PiecesMoved, PieceRefused, numbered_on}
use Rattle.events.specs.declared.logs.WholeRecords.{WholeRecords}
use Rattle.events.proofs.LogRecords.{Parted, parted, no_records}
use Rattle.events.proofs.logs.whole_records.Reads as whole-contract
use Rattle.log_forms.proofs.move_records.Reads as move-contract

-- ---- the premises: calls that met the contract

pub record PieceMet (form : Form) (c : MoveCall) : Type 0 where
  pub lifetimes : Lfts 2
  pub log_at : ℕ × ℕ
  pub target_at : (ℕ × ℕ) × GName
  pub met : move-contract.Post lifetimes (form, (lent_shared log_at c.log, (lent target_at c.before, tt))) c.returned (form, (lent_shared log_at c.log, (lent target_at c.after, tt)))

unfoldable pub AllMet : Form → List MoveCall → Type 0
AllMet form [] = Unit {0}
AllMet form (c ∷ cs) = PieceMet form c × AllMet form cs

-- ---- records behind others

nothing_bad : (form : Form) → first_bad form 0 [] ≡ None
unfolding first_bad
nothing_bad form = refl

nothing_moved : (form : Form) → moved_records form [] ≡ []
unfolding moved_records
nothing_moved form = refl

pub moved_on : (form : Form) (rs ss : List (List ℕ)) → moved_records form (rs ++ ss) ≡ moved_records form rs ++ moved_records form ss
unfolding moved_records
moved_on form [] ss = refl
moved_on form (r ∷ rs) ss = ap (λ (l : List ℕ). moved_record form r ++ l) (moved_on form rs ss) ∙ sym (append_assoc (moved_record form r) (moved_records form rs) (moved_records form ss))

abbrev or_bad : Option BadRecord → Option BadRecord → Option BadRecord
or_bad None later = later
or_bad (Some b) later = Some b

abbrev numbered : ℕ → Option BadRecord → Option BadRecord
numbered n None = None
numbered n (Some b) = Some (numbered_on n b)

-- the first bad one is in front, or it is counted on
bad_on : (form : Form) (n : ℕ) (rs ss : List (List ℕ)) → first_bad form n (rs ++ ss) ≡ or_bad (first_bad form n rs) (first_bad form (n + length rs) ss)
unfolding first_bad
bad_on form n [] ss = rw (add-zero n)
bad_on form n (r ∷ rs) ss = go (fault form r) (bad_on form (n + 1) rs ss ∙ ap (λ (k : ℕ). or_bad (first_bad form (n + 1) rs) (first_bad form k ss)) (omega arith))
  where
    go : (o : Option Fault) → first_bad form (n + 1) (rs ++ ss) ≡ or_bad (first_bad form (n + 1) rs) (first_bad form (n + suc (length rs)) ss)
        → bad_or_later (n + 1) o (first_bad form (n + 1) (rs ++ ss)) ≡ or_bad (bad_or_later (n + 1) o (first_bad form (n + 1) rs)) (first_bad form (n + suc (length rs)) ss)
    go None e = e
    go (Some f) e = refl

bad_numbered : (form : Form) (n m : ℕ) (rs : List (List ℕ)) → first_bad form (n + m) rs ≡ numbered n (first_bad form m rs)
unfolding first_bad
bad_numbered form n m [] = refl
bad_numbered form n m (r ∷ rs) = go (fault form r) (ap (λ (k : ℕ). first_bad form k rs) (add_assoc n m 1) ∙ bad_numbered form n (m + 1) rs)
  where
    go : (o : Option Fault) → first_bad form (n + m + 1) rs ≡ numbered n (first_bad form (m + 1) rs)
        → bad_or_later (n + m + 1) o (first_bad form (n + m + 1) rs) ≡ numbered n (bad_or_later (m + 1) o (first_bad form (m + 1) rs))
    go None e = e
    go (Some f) e = ap (λ (k : ℕ). Some (record { number = k; fault = f })) (add_assoc n m 1)

-- ---- what a call that met the contract says of its piece

fault_not_0 : (f : Fault) → fault_number f ≡ 0 → ⊥
fault_not_0 (Unreadable c) h = omega (arith, h, refusal_not_zero c)
fault_not_0 NoOldForm h = omega (arith, h)

record PieceMoved (form : Form) (c : MoveCall) : Type 0 where
  faultless : first_bad form 0 (records c.log) ≡ None
  written : move_written c ≡ moved_records form (records c.log)

module _ (form : Form) (before after : List ℕ) (r : Result ℕ NotMoved) where
  -- it returned 0
  moved_by : (o : Option BadRecord) (os : List ℕ) (t : Bool) → leb (length os) (length before) ≡ t → Moves (unless_bad o (cond t (Ok os) (Err TargetTooSmall))) before r after → answer_number r ≡ 0
      → (o ≡ None) × (take (answer_count r) after ≡ os)
  moved_by (Some b) os t e m z = absurd (fault_not_0 b.fault (sym (ap answer_number m.answer) ∙ z))
  moved_by None os false e m z = absurd (let k = sym (ap answer_number m.answer) ∙ z in omega (arith, k))
  moved_by None os true e m z = (refl, ap₂ take (ap answer_count m.answer) m.target ∙ take_at os (drop (length os) before) (length os) refl)

  -- it returned a bad record
  refused_by : (o : Option BadRecord) (os : List ℕ) (t : Bool) (b : BadRecord) → Moves (unless_bad o (cond t (Ok os) (Err TargetTooSmall))) before r after → r ≡ Err (Bad b) → o ≡ Some b
  refused_by (Some d) os t b m e =
      let k : ◌≡◌ {A = Result ℕ NotMoved} (Err (Bad d)) (Err (Bad b)) = sym m.answer ∙ e in
      cc
  refused_by None os false b m e =
      let k : ◌≡◌ {A = Result ℕ NotMoved} (Err TargetTooSmall) (Err (Bad b)) = sym m.answer ∙ e in
      absurd (let z : ◌≡◌ {A = ℕ} 0 1 = cc in omega arith)
  refused_by None os true b m e =
      let k : ◌≡◌ {A = Result ℕ NotMoved} (Ok (length os)) (Err (Bad b)) = sym m.answer ∙ e in
      absurd (let z : ◌≡◌ {A = ℕ} 0 1 = cc in omega arith)

piece_moved : (form : Form) (c : MoveCall) → PieceMet form c → move_number c ≡ 0 → PieceMoved form c
unfolding moved_behind
piece_moved form c h z =
    let rs = records c.log in
    let p = moved_by form c.before c.after c.returned (first_bad form 0 rs) (moved_records form rs) (leb (length (moved_records form rs)) (length c.before)) refl h.met z in
    record { faultless = p.0; written = p.1 }

piece_refused : (form : Form) (c : MoveCall) (b : BadRecord) → PieceMet form c → c.returned ≡ Err (Bad b) → first_bad form 0 (records c.log) ≡ Some b
unfolding moved_behind
piece_refused form c b h e =
    let os = moved_records form (records c.log) in
    refused_by form c.before c.after c.returned (first_bad form 0 (records c.log)) os (leb (length os) (length c.before)) b h.met e

-- ---- the theorems

pub pieces_moved : (form : Form) (cs : List MoveCall) → AllMet form cs → AllMoved cs → PiecesMoved form cs
unfolding AllMet AllMoved records_of written_by
pieces_moved form [] h z = record { faultless = nothing_bad form; written = sym (nothing_moved form) }
pieces_moved form (c ∷ cs) h z =
    let p = piece_moved form c h.0 z.0 in
    let i = pieces_moved form cs h.1 z.1 in
    let rs = records c.log in
    let ss = records_of cs in
    record {
      faultless = bad_on form 0 rs ss ∙ rw p.faultless (ap (λ (k : ℕ). first_bad form k ss) (omega arith) ∙ bad_numbered form (length rs) 0 ss ∙ ap (numbered (length rs)) i.faultless);
      written = ap₂ (λ (x y : List ℕ). x ++ y) p.written i.written ∙ sym (moved_on form rs ss);
    }

pub pieces_refused : (form : Form) (front : List MoveCall) (c : MoveCall) (b : BadRecord) → AllMet form front → AllMoved front → PieceMet form c
    → c.returned ≡ Err (Bad b) → PieceRefused form front c b
pieces_refused form front c b h z m e =
    let p = pieces_moved form front h z in
    let rs = records_of front in
    let ss = records c.log in
    record {
      first = λ later.
          let k : first_bad form 0 (ss ++ later) ≡ Some b = bad_on form 0 ss later ∙ rw (piece_refused form c b m e) in
          let i : first_bad form (0 + length rs) (ss ++ later) ≡ Some (numbered_on (length rs) b) =
          ap (λ (n : ℕ). first_bad form n (ss ++ later)) (omega arith) ∙ bad_numbered form (length rs) 0 (ss ++ later) ∙ ap (numbered (length rs)) k in
          bad_on form 0 rs (ss ++ later) ∙ rw p.faultless i;
    }

-- ---- a log cut into pieces

-- a call of `whole_records` that met its contract
pub record WholeMet (piece : List ℕ) (w : WholeRecords) : Type 0 where
  pub lifetimes : Lfts 1
  pub piece_at : ℕ × ℕ
  pub met : whole-contract.Post lifetimes (lent_shared piece_at piece, tt) w (lent_shared piece_at piece, tt)

-- a log, calls that had its records in their order, and the octets that are left: each call had the whole records of a
-- piece of what the last one left, and the very last may have had all that was left
pub data Cut : List ℕ → List MoveCall → List ℕ → Type 0 where
  uncut : (log : List ℕ) → Cut log [] log
  whole_part : (piece later : List ℕ) (w : WholeRecords) (c : MoveCall) (cs : List MoveCall) (left : List ℕ) → WholeMet piece w → c.log ≡ take w.octets piece →
      Cut (drop w.octets piece ++ later) cs left → Cut (piece ++ later) (c ∷ cs) left
  last_part : (c : MoveCall) → Cut c.log (c ∷ []) []

module _ {piece : List ℕ} {w : WholeRecords} (h : WholeMet piece w) where
  parted_there : Parted piece w
  parted_there = rw h.met (parted piece)

  -- the count that `whole_records` returned is that of the records that the call had
  pub counted : (c : MoveCall) → c.log ≡ take w.octets piece → length (records c.log) ≡ w.count
  counted c e = ap (λ (os : List ℕ). length (records os)) e ∙ parted_there.counted

pub cut_records : {log left : List ℕ} {cs : List MoveCall} → Cut log cs left → records log ≡ records_of cs ++ records left
unfolding records_of
cut_records (uncut log) = refl
cut_records (whole_part piece later w c cs left h e k) =
    (parted_there h).goes_on later ∙ ap₂ (λ (x y : List (List ℕ)). x ++ y) (ap records (sym e)) (cut_records k) ∙ sym (append_assoc (records c.log) (records_of cs) (records left))
cut_records (last_part c) = rw (no_records, append-nil (records c.log), append-nil (records c.log))

one_behind : (cs : List MoveCall) (c : MoveCall) → records_of (cs ++ (c ∷ [])) ≡ records_of cs ++ records c.log
unfolding records_of
one_behind [] c = append-nil (records c.log)
one_behind (d ∷ cs) c = ap (λ (rs : List (List ℕ)). records d.log ++ rs) (one_behind cs c) ∙ sym (append_assoc (records d.log) (records_of cs) (records c.log))

-- nothing is left, and each call returned 0: the log has no bad record, and its records lie there in that form
pub log_moved : (form : Form) {log : List ℕ} {cs : List MoveCall} → Cut log cs [] → AllMet form cs → AllMoved cs → (first_bad form 0 (records log) ≡ None) × (written_by cs ≡ moved_records form (records log))
log_moved form {log} {cs} k h z =
    let p = pieces_moved form cs h z in
    let e : records log ≡ records_of cs = cut_records k ∙ rw (no_records, append-nil (records_of cs)) in
    (ap (first_bad form 0) e ∙ p.faultless, p.written ∙ ap (moved_records form) (sym e))

-- the last call returned a bad record: that is the first bad one of the log, by its number there
pub log_refused : (form : Form) {log left : List ℕ} (front : List MoveCall) (c : MoveCall) (b : BadRecord) → Cut log (front ++ (c ∷ [])) left → AllMet form front → AllMoved front → PieceMet form c
    → c.returned ≡ Err (Bad b) → first_bad form 0 (records log) ≡ Some (numbered_on (length (records_of front)) b)
log_refused form {log} {left} front c b k h z m e =
    let p = pieces_refused form front c b h z m e in
    let r : records log ≡ records_of front ++ (records c.log ++ records left) =
    cut_records k ∙ ap (λ (rs : List (List ℕ)). rs ++ records left) (one_behind front c) ∙ append_assoc (records_of front) (records c.log) (records left) in
    ap (first_bad form 0) r ∙ p.first (records left)
