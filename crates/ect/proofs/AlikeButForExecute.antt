-- With first option octet 2 an EctExecute gets invoke problem 1, and every other event is served as with 1, over the contract of `step` (document 02, slip 9).
use Prim.Native.Nat.{ℕ}
use mathlib.Core.Path.{◌≡◌, ◌∙◌, ap, ap₂, refl, sym}
use mathlib.Core.Bool.{false}
use lib.ListN.{length}
use Rattle.octets.specs.declared.IntegerOctets.{IntegerOctets}
use Rattle.board.specs.declared.Board.{Board}
use Rattle.rules.specs.AlikeButForExecute.{is_execute, with_subscribed, outcome_with, Executes}
use Rattle.rules.specs.History.{stepped}
use Rattle.rules.specs.Replies.{octets}
use Rattle.rules.specs.Step.{Outcome, step}
use Rattle.rules.proofs.AlikeButForExecute.{rules_alike, stepped_with, rules_reject_execute}
use Rattle.ect.specs.AlikeButForExecute.{Alike, Rejects}
use Rattle.ect.specs.CallHistory.{StepCall, event_of, number_returned}
use Rattle.ect.proofs.CallHistory.{StepContractMet, outcome, replies_are}
use Rattle.ect.proofs.OneAnswer.{same_answer}

module _ (b : Board) (one two : StepCall) (h : StepContractMet (with_subscribed 1 b) one) (k : StepContractMet (with_subscribed 2 b) two) where
  -- whatever the board, the event and the buffers, these of one length
  pub alike_but_for_execute : one.event ≡ two.event → length one.before ≡ length two.before → is_execute one.event ≡ false → Alike one two
  alike_but_for_execute e l n =
      let o = step (with_subscribed 1 b) one.event (length one.before) in
      let s : stepped (with_subscribed 2 b) (event_of two) ≡ outcome_with 2 o =
      ap₂ (step (with_subscribed 2 b)) (sym e) (sym l) ∙ rules_alike b one.event (length one.before) n in
      record {
        answer = same_answer one.returned.answer two.returned.answer
            ((outcome h).answer ∙ ap (λ (x : Outcome). x.returned) (sym s) ∙ sym (outcome k).answer)
            ((outcome h).count ∙ ap (λ (x : Outcome). length (octets x.replies)) (sym s) ∙ sym (outcome k).count);
        octets = replies_are (outcome h) ∙ ap (λ (x : Outcome). octets x.replies) (sym s) ∙ sym (replies_are (outcome k));
        board = o.board;
        board_one = (outcome h).board ∙ ap (λ (x : Outcome). x.board) (stepped_with b one.event (length one.before) 1 refl refl);
        board_two = (outcome k).board ∙ ap (λ (x : Outcome). x.board) s;
      }

-- an EctExecute that is accepted with 2, whatever the board and the buffer
pub execute_rejected : (b : Board) (c : StepCall) (r : ℕ) (i : IntegerOctets) → StepContractMet (with_subscribed 2 b) c → Executes c.event r i → number_returned c ≡ 0 → Rejects b c r i
execute_rejected b c r i h x z =
    let e = rules_reject_execute b c.event (length c.before) r i x (sym (outcome h).answer ∙ z) in
    record {
      octets_written = replies_are (outcome h) ∙ ap (λ (o : Outcome). octets o.replies) e;
      board_stays = (outcome h).board ∙ ap (λ (o : Outcome). o.board) e;
    }
