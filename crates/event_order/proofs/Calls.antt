-- Two events on unrelated calls in either order, over the contract of `step`: of the answers, boards and octets that four calls gave.
use Prim.Native.Nat.{ℕ, ◌≤◌}
use borrow.Author.Tests.{le-ltb}
use mathlib.Core.Path.{◌≡◌, ◌∙◌, ap, ap₂, subst, sym}
use mathlib.Core.List.{List}
use lib.Dec.{T, ltb}
use lib.ListN.{length}
use Rattle.board.specs.declared.Board.{Board}
use Rattle.board.specs.Soundness.{sound}
use Rattle.events.specs.EventRecords.{request}
use Rattle.rules.specs.History.{stepped}
use Rattle.rules.specs.Replies.{ReplyRecord, octets}
use Rattle.rules.specs.Step.{Outcome, step, step_tested}
use Rattle.ect.specs.CallHistory.{StepCall, written, event_of}
use Rattle.ect.specs.Contract.{OutcomeOf}
use Rattle.ect.proofs.CallHistory.{StepContractMet, outcome, replies_are}
use Rattle.ect.proofs.OneAnswer.{same_answer}
use Rattle.event_order.specs.EventOrder.{unrelated, DifferentReferences, FourCalls, SameEvents, LargeBuffers, BuffersAlike, SameInEitherOrder, is_small}
use Rattle.event_order.proofs.EventOrder.{in_either_order, are_unrelated}

-- ---- the premise

-- each of the four calls met the contract: the first of each order on the board b, the second on the board that the first returned
pub record FourCallsMet (b : Board) (c : FourCalls) : Type 0 where
  pub e_first : StepContractMet b c.e_first
  pub f_second : StepContractMet c.e_first.returned.board c.f_second
  pub f_first : StepContractMet b c.f_first
  pub e_second : StepContractMet c.f_first.returned.board c.e_second

-- ---- of an event's two calls, what was returned and written

-- of a buffer's length counts alone whether it is below 128
same_step : (b : Board) (os : List ℕ) (n m : ℕ) → ltb n 128 ≡ ltb m 128 → step b os n ≡ step b os m
unfolding step step_tested
same_step b os n m h = rw h

-- the call c, with which one order begins, and the call d of the same event in the other order
module _ (c d : StepCall) where
  -- where d comes after the call f on the board b, its outcome is that of c's event there
  second : {b : Board} (f : StepCall) → StepContractMet b f → StepContractMet f.returned.board d → d.event ≡ c.event → is_small d ≡ is_small c →
      OutcomeOf (stepped (stepped b (event_of f)).board (event_of c)) d.before d.returned d.after
  second {b} f h k e s =
      subst (λ (o : Outcome). OutcomeOf o d.before d.returned d.after)
      (ap₂ (λ (x : Board) (os : List ℕ). step x os (length d.before)) (outcome h).board e
      ∙ same_step (stepped b (event_of f)).board c.event (length d.before) (length c.before) s)
      (outcome k)

  module _ {o u : Outcome} (h : OutcomeOf o d.before d.returned d.after) (k : OutcomeOf u c.before c.returned c.after) (replies : o.replies ≡ u.replies) where
    answers_same : o.returned ≡ u.returned → d.returned.answer ≡ c.returned.answer
    answers_same e =
        same_answer d.returned.answer c.returned.answer (h.answer ∙ e ∙ sym k.answer) (h.count ∙ ap (λ (rs : List ReplyRecord). length (octets rs)) replies ∙ sym k.count)

    written_same : written d ≡ written c
    written_same = replies_are h ∙ ap octets replies ∙ sym (replies_are k)

-- ---- the theorems

pub unrelated_calls : (b : Board) (c : FourCalls) → FourCallsMet b c → SameEvents c → BuffersAlike c → T (unrelated (request c.e_first.event) (request c.f_first.event)) → SameInEitherOrder c
unrelated_calls b c met same alike t =
    let e₁ = outcome met.e_first in
    let f₁ = outcome met.f_first in
    let e₂ = second c.e_first c.e_second c.f_first met.f_first met.e_second same.e alike.e in
    let f₂ = second c.f_first c.f_second c.e_first met.e_first met.f_second same.f alike.f in
    let w = in_either_order b (event_of c.e_first) (event_of c.f_first) t in
    record {
      e_answer = answers_same c.e_first c.e_second e₂ e₁ w.e_replies w.e_returned;
      f_answer = answers_same c.f_first c.f_second f₂ f₁ w.f_replies w.f_returned;
      e_written = written_same c.e_first c.e_second e₂ e₁ w.e_replies;
      f_written = written_same c.f_first c.f_second f₂ f₁ w.f_replies;
      board = f₂.board ∙ w.board ∙ sym e₂.board;
    }

are_alike : {c : FourCalls} → LargeBuffers c → BuffersAlike c
are_alike {c} h = record { e = both_large c.e_second c.e_first h.e_second h.e_first; f = both_large c.f_second c.f_first h.f_second h.f_first }
  where
    both_large : (x y : StepCall) → 128 ≤ length x.before → 128 ≤ length y.before → is_small x ≡ is_small y
    both_large x y n m = le-ltb (length x.before) 128 n ∙ sym (le-ltb (length y.before) 128 m)

pub unrelated_calls_asked : (b : Board) (c : FourCalls) → FourCallsMet b c → SameEvents c → LargeBuffers c → T (sound b) → DifferentReferences c.e_first.event c.f_first.event → SameInEitherOrder c
unrelated_calls_asked b c met same large s d = unrelated_calls b c met same (are_alike large) (are_unrelated d)
