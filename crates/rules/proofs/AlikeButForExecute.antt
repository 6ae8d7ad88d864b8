-- With first option octet 2 an EctExecute gets invoke problem 1, and of every other event the rules come to what they come to with 1 (document 02, slip 9).
use Prim.Native.Nat.{ℕ}
use native.Mathlib.Omega.{arith}
use mathlib.Core.Path.{◌≡◌, ◌∙◌, ap, ap₂, refl, sym}
use mathlib.Core.Bool.{Bool, true, false, cond, ◌&&◌}
use mathlib.Core.List.{List}
use lib.Dec.{ltb, leb}
use lib.IntN.{ℤ}
use Rattle.octets.proofs.Lists.{true_not_false, find_mem, eqb_eq}
use Rattle.octets.specs.declared.IntegerOctets.{IntegerOctets}
use Rattle.std.specs.Prelude.{None, Option, Some}
use Rattle.component.specs.declared.Answer.TheVariants as answer
use Rattle.component.specs.declared.Reject.TheVariants.{Invoke}
use Rattle.component.specs.declared.Operation.TheVariants.{EctExecute, ExplicitEctExecute, EctLinkIdRequest}
use Rattle.component.specs.declared.Reading.{Reading}
use Rattle.component.specs.declared.Reading.TheVariants.{Ignored, Rejected, Invoked}
use Rattle.component.specs.Reading.{reading}
use Rattle.board.specs.declared.Board.{Board}
use Rattle.board.specs.declared.Entry.{Entry}
use Rattle.board.specs.declared.Party.{Party}
use Rattle.board.specs.declared.RuleSet.TheVariants.{European, American}
use Rattle.board.specs.Changes.{full}
use Rattle.board.specs.Entries.{taken, calls, has_party_reference}
use Rattle.board.specs.Making.{options}
use Rattle.board.specs.Soundness.{sound}
use Rattle.events.specs.declared.Refusal.TheVariants as refusal
use Rattle.events.specs.EventRecords.{Request, request, Malformed, Open, Progress, Hold, Release, Facility, Answer, LegFacility, Inform}
use Rattle.events.specs.Refusals.{refusal_number}
use Rattle.rules.specs.Checks.{Decision, Refuse, Accept, decide, decide_facility, service_decision, named}
use Rattle.rules.specs.Pairing.{calls_pair}
use Rattle.rules.specs.Replies.{replied}
use Rattle.rules.specs.Serving.{Service, Respond, serve, perform, if_subscribed, may_name_one}
use Rattle.rules.specs.AlikeButForExecute.{reads_execute, asks_execute, is_execute, with_subscribed, outcome_with, StepsAlike, Executes, problem_1, StepsRejected}
use Rattle.rules.specs.Step.{Outcome, step, step_tested, decision, done, refused, board_after, rows_after, candidate_after, replies}

-- ---- what is decided

module _ (a : ℕ) (z : ℤ) (es : List Entry) where
  served_alike : (p : Party) (r : Reading) → reads_execute r ≡ false → serve (options 1 a) z (calls es) p r ≡ serve (options 2 a) z (calls es) p r
  unfolding serve calls_pair
  served_alike p Ignored h = refl
  served_alike p (Rejected r) h = refl
  served_alike p (Invoked i EctExecute) h = absurd (true_not_false {b = true} refl h)
  served_alike p (Invoked i (ExplicitEctExecute l)) h = refl
  served_alike p (Invoked i EctLinkIdRequest) h = refl

  facility_alike : (c : List ℕ) → reads_execute (reading c) ≡ false → (o : Option Party) → decide_facility (options 1 a) z es c o ≡ decide_facility (options 2 a) z es c o
  facility_alike c h None = refl
  facility_alike c h (Some p) = ap (service_decision (options 1 a) p) (served_alike p (reading c) h)

  decided_alike : (w : Bool) (q : Request) → asks_execute q ≡ false → decide (options 1 a) z w es q ≡ decide (options 2 a) z w es q
  unfolding decide
  decided_alike w (Malformed c) h = refl
  decided_alike w (Open r l d n) h = refl
  decided_alike w (Progress r s) h = refl
  decided_alike w (Hold r x) h = refl
  decided_alike w (Release l) h = refl
  decided_alike w (Facility r c) h = facility_alike c h (named r es)
  decided_alike w (Answer l) h = refl
  decided_alike w (LegFacility l n c) h = refl
  decided_alike w (Inform r c) h = refl

-- ---- what comes of it, on the board with either octet

module _ (b : Board) (os : List ℕ) (room : ℕ) (s : ℕ) where
  pub stepped_with : sound (with_subscribed 1 b) ≡ sound (with_subscribed s b) → decision (with_subscribed 1 b) os ≡ decision (with_subscribed s b) os →
      step (with_subscribed s b) os room ≡ outcome_with s (step (with_subscribed 1 b) os room)
  unfolding step step_tested board_after replies
  stepped_with e f = go (ltb room 128) (sound (with_subscribed 1 b)) (sound (with_subscribed s b)) e _ _ f
    where
      came : ℕ → Bool → Bool → Decision → Outcome
      came t x y d = cond x (refused (refusal_number refusal.BufferTooSmall) (with_subscribed t b)) (cond y (done (with_subscribed t b) d) (refused (refusal_number refusal.UnsoundBoard) (with_subscribed t b)))

      go : (x y y' : Bool) → y ≡ y' → (d d' : Decision) → d ≡ d' → came s x y' d' ≡ outcome_with s (came 1 x y d)
      go x y y' p d d' q = sym (ap₂ (came s x) p q) ∙ same x y d
        where
          same : (x y : Bool) (d : Decision) → came s x y d ≡ outcome_with s (came 1 x y d)
          same true y d = refl
          same false true d = refl
          same false false d = refl

pub rules_alike : (b : Board) (os : List ℕ) (room : ℕ) → is_execute os ≡ false → StepsAlike b os room
unfolding sound decision
rules_alike b os room h = stepped_with b os room 2 refl (decided_alike b.options.alerting b.candidate.0 (taken b.rows) (full b.rows) (request os) h)

-- ---- an EctExecute with 2

module _ (b : Board) (os : List ℕ) (room r : ℕ) (i : IntegerOctets) (x : Executes os r i) where
  two : Board
  two = with_subscribed 2 b

  rejected_by : (p : Party) → serve two.options two.candidate.0 (calls (taken b.rows)) p (reading x.component) ≡ Respond (answer.Rejected (Invoke i 1))
  unfolding serve two
  rejected_by p = rw x.read (by_rules (leb 2 b.options.alerting))
    where
      by_rules : (american : Bool) → cond {A = Service} (may_name_one (cond american American European) && false) (if_subscribed two.options i (perform two.options two.candidate.0 (calls (taken b.rows)) p i EctExecute)) (Respond (answer.Rejected (Invoke i 1))) ≡ Respond (answer.Rejected (Invoke i 1))
      by_rules true = refl
      by_rules false = refl

  on : Option Party → Decision
  on None = Refuse refusal.NoSuchCall
  on (Some p) = Accept None (replied p.call.reference.0 (answer.Rejected (Invoke i 1)))

  decided : decision two os ≡ on (named r (taken b.rows))
  unfolding decision decide two on
  decided = rw x.asked (go (named r (taken b.rows)))
    where
      go : (o : Option Party) → decide_facility two.options two.candidate.0 (taken b.rows) x.component o ≡ on o
      go None = refl
      go (Some p) = ap (service_decision two.options p) (rejected_by p)

  pub rules_reject_execute : StepsRejected b os room r i
  unfolding step step_tested board_after rows_after candidate_after replies two on
  rules_reject_execute = rw decided (go (ltb room 128) (sound two) (named r (taken b.rows)) refl)
    where
      came : Bool → Bool → Option Party → Outcome
      came x y o = cond x (refused (refusal_number refusal.BufferTooSmall) two) (cond y (done two (on o)) (refused (refusal_number refusal.UnsoundBoard) two))

      go : (x y : Bool) (o : Option Party) → named r (taken b.rows) ≡ o → (came x y o).returned ≡ 0 → came x y o ≡ record { returned = 0; board = two; replies = problem_1 r i }
      go true y o e h = absurd (omega (arith, h))
      go false false o e h = absurd (omega (arith, h))
      go false true None e h = absurd (omega (arith, h))
      go false true (Some p) e h = ap (λ (n : ℕ). record { returned = 0; board = two; replies = problem_1 n i }) (sym (eqb_eq r p.call.reference.0 (find_mem (has_party_reference r) (calls (taken b.rows)) e).1))
