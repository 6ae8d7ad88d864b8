-- The outcome of the rules by the tests that lead to it, and what the code shows of it.
use Rattle.std.specs.Prelude.{Result, Ok, Err}
use native.Mathlib.Omega.{arith}
use Prim.Native.Nat.{ℕ}
use lib.Dec.{ltb}
use mathlib.Core.Path.{◌∙◌, ap, refl, sym, subst⁻¹, ◌≡◌}
use mathlib.Core.Bool.{Bool, cond, false, true}
use mathlib.Core.List.{List}
use lib.ListN.{length}
use Rattle.octets.specs.Buffers.{front_written}
use Rattle.board.specs.declared.Board.{Board}
use Rattle.ect.specs.Code.Testing.{decision_tested, stepped}
use Rattle.ect.specs.Contract.{OutcomeOf}
use Rattle.effects.specs.Code.Effects.{EffectOf, effect, effect_by, change_in, board_by}
use Rattle.effects.proofs.EffectLaws.{board_is}
use Rattle.replies.specs.Code.Writing.{rendered, written}
use Rattle.replies.proofs.WritingLaws.{rendered_written}
use Rattle.ect.specs.declared.Stepped.{Stepped}
use Rattle.events.specs.declared.Refusal.{Refusal}
use Rattle.rules.specs.Checks.{Refuse, Accept, Decision, returned_by}
use Rattle.events.specs.Refusals.{refusal_number}
use Rattle.rules.specs.Replies.{octets, number_at}
use Rattle.rules.specs.Step.{replies, board_after, rows_after, candidate_after, step_tested, refused, Outcome, done, decision}
use Rattle.events.specs.declared.Refusal.TheVariants as refusal
use Rattle.effects.specs.declared.Effect.{Effect}

-- ---- the outcome

-- it is that of the decision behind the tests
pub by_decision : (tested : Bool) (b : Board) (os : List ℕ) (room : ℕ) → step_tested tested b os room ≡ done b (decision_tested room tested (decision b os))
unfolding step_tested board_after rows_after candidate_after replies
by_decision tested b os room = go (ltb room 128) tested
  where
    go : (x t : Bool) → cond {A = Outcome} x (refused (refusal_number refusal.BufferTooSmall) b) (cond t (done b (decision b os)) (refused (refusal_number refusal.UnsoundBoard) b)) ≡
        done b (cond x (Refuse refusal.BufferTooSmall) (cond t (decision b os) (Refuse refusal.UnsoundBoard)))
    go true t = refl
    go false true = refl
    go false false = refl

-- ---- what is shown of it

outcome_refused : (c : Refusal) (b : Board) (before : List ℕ) → OutcomeOf (refused (refusal_number c) b) before (stepped (Err c) b) before
unfolding octets
outcome_refused c b before = record { answer = refl; count = refl; board = refl; buffer = refl }

outcome_is : {o p : Outcome} {before : List ℕ} {r : Stepped} {after : List ℕ} → o ≡ p → OutcomeOf p before r after → OutcomeOf o before r after
outcome_is {before = before} {r = r} {after = after} h k = subst⁻¹ (λ (x : Outcome). OutcomeOf x before r after) h k

-- ---- what an effect shows of its decision

module _ (b : Board) where
  refuses : (d : Decision) {c : Refusal} → Err c ≡ effect_by b.rows d → d ≡ Refuse c
  refuses (Refuse r) {c} e = let z : c ≡ r = cc in sym (ap Refuse z)
  refuses (Accept x w) e = let z : ◌≡◌ {A = ℕ} 0 1 = cc in absurd (omega arith)

  pub record Done (d : Decision) (e : Effect) : Type 0 where
    pub returned : returned_by d ≡ 0
    pub board : board_by e.change b ≡ board_after d b
    pub octets_are : written e.out ≡ octets (replies b.rows d)

  accepts : (d : Decision) {e : Effect} → Ok e ≡ effect_by b.rows d → Done d e
  unfolding board_after replies rendered
  accepts (Refuse r) h = let z : ◌≡◌ {A = ℕ} 0 1 = cc in absurd (omega arith)
  accepts (Accept x w) {e} h =
      let z : e ≡ effect (change_in x) (rendered (w (number_at b.rows))) = cc in
      record {
        returned = refl;
        board = board_is (Accept x w) (record { is = h });
        octets_are = ap (λ (v : Effect). written v.out) z ∙ rendered_written (w (number_at b.rows));
      }

module _ (tested : Bool) (b : Board) (os before : List ℕ) where
  pub step_refused : {r : Result Effect Refusal} {c : Refusal} → EffectOf r b (decision_tested (length before) tested (decision b os)) → r ≡ Err c → OutcomeOf (step_tested tested b os (length before)) before (stepped (Err c) b) before
  unfolding board_after rows_after candidate_after replies
  step_refused {c = c} k e =
      outcome_is (by_decision tested b os (length before) ∙ ap (done b) (refuses b (decision_tested (length before) tested (decision b os)) (sym e ∙ k.is)))
      (outcome_refused c b before)

  pub step_done : {r : Result Effect Refusal} {e : Effect} → EffectOf r b (decision_tested (length before) tested (decision b os)) → r ≡ Ok e → {os' : List ℕ} {n : ℕ} {after : List ℕ} →
      os' ≡ written e.out → n ≡ length os' → after ≡ front_written os' before → OutcomeOf (step_tested tested b os (length before)) before (stepped (Ok n) (board_by e.change b)) after
  step_done k i x m q =
      let d = accepts b (decision_tested (length before) tested (decision b os)) (sym i ∙ k.is) in
      let y = x ∙ d.octets_are in
      outcome_is (by_decision tested b os (length before))
      (record {
        answer = sym d.returned;
        count = m ∙ ap length y;
        board = d.board;
        buffer = q ∙ ap (λ (l : List ℕ). front_written l before) y;
      })
