-- A log moved to the new form and back is the same log: over the contracts of `to_new_form` and `to_old_form`. Assumes nothing.
use Prim.{tt}
use Prim.Native.Nat.{ℕ, ◌+◌, ◌≤◌}
use native.Mathlib.Omega.{arith}
use mathlib.Core.Path.{◌≡◌, refl, ap, ap₂, ◌∙◌}
use mathlib.Core.Bool.{true, false, not}
use mathlib.Core.List.{List, [], ◌∷◌, ◌++◌, map, flatten}
use lib.Dec.{eqb, leb}
use lib.ListN.{length, get_or, take, drop}
use lib.Seq.{take_at}
use base.Fml.{GName}
use contract.Lifetimes.{Lfts}
use borrow.Author.Tests.{le-leb}
use Rattle.std.specs.Prelude.{None, Option, Some, Result, Ok, is_none}
use Rattle.octets.proofs.Lent.{lent, lent_shared}
use Rattle.octets.proofs.Lists.{left, right, is_not, true_not_false}
use Rattle.octets.specs.Lists.{all}
use Rattle.board.specs.Making.{ForOldLog, options, takes}
use Rattle.events.specs.Records.{records}
use Rattle.events.proofs.LogRecords.{records_are_the_log}
use Rattle.log_forms.specs.declared.Form.{Form}
use Rattle.log_forms.specs.declared.Form.TheVariants.{Old, New}
use Rattle.log_forms.specs.declared.BadRecord.{BadRecord}
use Rattle.log_forms.specs.declared.NotMoved.{NotMoved}
use Rattle.log_forms.specs.Moving.{new_record, moved_records, first_bad, moved_behind, moved_log}
use Rattle.log_forms.specs.Contract.{Moves, answer_number, answer_count}
use Rattle.log_forms.specs.MoveCalls.{MoveCall, move_written}
use Rattle.log_forms.specs.ThereAndBack.{good, no_event_9, moved_octets, SameLog}
use Rattle.log_forms.proofs.MovedRecords.{no_fault}
use Rattle.log_forms.proofs.SameRequests.{records_moved, back_again, faultless_back}
use Rattle.log_forms.proofs.to_new_form.Reads as new-contract
use Rattle.log_forms.proofs.to_old_form.Reads as old-contract

-- ---- the premises: calls that met their contracts

pub record NewMet (c : MoveCall) : Type 0 where
  pub lifetimes : Lfts 2
  pub log_at : ℕ × ℕ
  pub target_at : (ℕ × ℕ) × GName
  pub met : new-contract.Post lifetimes (lent_shared log_at c.log, (lent target_at c.before, tt)) c.returned (lent_shared log_at c.log, (lent target_at c.after, tt))

pub record OldMet (c : MoveCall) : Type 0 where
  pub lifetimes : Lfts 2
  pub log_at : ℕ × ℕ
  pub target_at : (ℕ × ℕ) × GName
  pub met : old-contract.Post lifetimes (lent_shared log_at c.log, (lent target_at c.before, tt)) c.returned (lent_shared log_at c.log, (lent target_at c.after, tt))

-- ---- a call that has nothing to refuse

none_is : (o : Option BadRecord) → is_none o ≡ true → o ≡ None
none_is None e = refl
none_is (Some b) e = absurd (true_not_false e refl)

-- it returned 0, and wrote the options and the moved records
record Accepted (form : Form) (log : List ℕ) (r : Result ℕ NotMoved) (after : List ℕ) : Type 0 where
  number : answer_number r ≡ 0
  octets : take (answer_count r) after ≡ moved_octets form log

module _ (form : Form) (s a : ℕ) (later before after : List ℕ) (r : Result ℕ NotMoved) where
  accepted : takes ForOldLog (options s a) ≡ true → first_bad form 0 (records later) ≡ None → length (moved_octets form (s ∷ a ∷ later)) ≤ length before
      → Moves (moved_log form (s ∷ a ∷ later) (length before)) before r after → Accepted form (s ∷ a ∷ later) r after
  unfolding moved_log moved_behind
  accepted v g h m =
      let os = moved_octets form (s ∷ a ∷ later) in
      let t : leb (length os) (length before) ≡ true = le-leb (length os) (length before) h in
      let q : r ≡ Ok (length os) = m.answer ∙ rw (v, g, t) in
      let p : after ≡ os ++ drop (length os) before = m.target ∙ rw (v, g, t) in
      record { number = ap answer_number q; octets = ap₂ take (ap answer_count q) p ∙ take_at os (drop (length os) before) (length os) refl }

-- ---- the records of what was written come back, and none of them is bad on the way

record AllBack (n : ℕ) (rs : List (List ℕ)) : Type 0 where
  faultless : first_bad Old n (map new_record rs) ≡ None
  back : moved_records Old (map new_record rs) ≡ flatten rs

all_back : (n : ℕ) (rs : List (List ℕ)) → first_bad New n rs ≡ None → all (λ (r : List ℕ). not (eqb (get_or r 0 0) 9)) rs ≡ true → AllBack n rs
unfolding first_bad moved_records flatten
all_back n [] e k = record { faultless = refl; back = refl }
all_back n (r ∷ rs) e k =
    let p = no_fault New n r rs e in
    let j : eqb (get_or r 0 0) 9 ≡ false = is_not (left _ _ k) in
    let i = all_back (n + 1) rs p.1 (right _ _ k) in
    record { faultless = rw (faultless_back r p.0 j) i.faultless; back = ap₂ (λ (x y : List ℕ). x ++ y) (back_again r p.0 j) i.back }

both_ways : (log before after log_2 before_2 after_2 : List ℕ) (r r_2 : Result ℕ NotMoved) → Moves (moved_log New log (length before)) before r after →
    Moves (moved_log Old log_2 (length before_2)) before_2 r_2 after_2 → good log ≡ true → no_event_9 log ≡ true → length (moved_octets New log) ≤ length before →
    log_2 ≡ take (answer_count r) after → length log ≤ length before_2 → (answer_number r ≡ 0) × (answer_number r_2 ≡ 0) × (take (answer_count r_2) after_2 ≡ log)
both_ways [] before after log_2 before_2 after_2 r r_2 m m_2 g n room is room_2 = absurd (true_not_false g refl)
both_ways (s ∷ []) before after log_2 before_2 after_2 r r_2 m m_2 g n room is room_2 = absurd (true_not_false g refl)
both_ways (s ∷ a ∷ later) before after log_2 before_2 after_2 r r_2 m m_2 g n room is room_2 =
    let rs = records later in
    let v = left (takes ForOldLog (options s a)) _ g in
    let f = none_is (first_bad New 0 rs) (right (takes ForOldLog (options s a)) _ g) in
    let x = accepted New s a later before after r v f room m in
    let e : log_2 ≡ s ∷ a ∷ moved_records New rs = is ∙ x.octets in
    let ms : records (moved_records New rs) ≡ map new_record rs = records_moved New 0 rs f in
    let i = all_back 0 rs f n in
    let o : s ∷ a ∷ moved_records Old (records (moved_records New rs)) ≡ s ∷ a ∷ later =
    ap (λ (l : List ℕ). s ∷ a ∷ l) (ap (moved_records Old) ms ∙ i.back ∙ records_are_the_log later) in
    let y = accepted Old s a (moved_records New rs) before_2 after_2 r_2 v (ap (first_bad Old 0) ms ∙ i.faultless) (omega (arith, ap length o)) (rw e at m_2) in
    (x.number, y.number, y.octets ∙ o)

-- ---- the theorem

module _ {c d : MoveCall} (met : NewMet c) (met_back : OldMet d) where
  -- for every log of the old form that is not refused and holds no event 9, and targets with room
  pub there_and_back : good c.log ≡ true → no_event_9 c.log ≡ true → length (moved_octets New c.log) ≤ length c.before
      → d.log ≡ move_written c → length c.log ≤ length d.before → SameLog c d
  there_and_back g n room is room_back =
      let b = both_ways c.log c.before c.after d.log d.before d.after c.returned d.returned met.met met_back.met g n room is room_back in
      record { moved = b.0; moved_back = b.1; same = b.2 }
