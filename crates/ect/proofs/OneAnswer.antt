-- A board and an event have one answer, over the contract of `step` (document 02, slip 3).
use Rattle.std.specs.Prelude.{Result, Ok, Err}
use Prim.Native.Nat.{ℕ, ◌≤◌, ◌<◌}
use native.Mathlib.Omega.{arith}
use borrow.Author.Tests.{ltb-true, ltb-false, lt-ltb, le-ltb}
use mathlib.Core.Path.{◌≡◌, ◌∙◌, ap, ap₂, refl, sym}
use mathlib.Core.Bool.{Bool, true, false, cond}
use mathlib.Core.List.{List}
use lib.Dec.{ltb}
use lib.ListN.{length}
use Rattle.board.specs.declared.Board.{Board}
use Rattle.board.specs.Soundness.{sound}
use Rattle.events.specs.declared.Refusal.{Refusal}
use Rattle.events.specs.declared.Refusal.TheVariants as refusal
use Rattle.events.specs.Refusals.{refusal_number}
use Rattle.events.proofs.RefusalNumbers.{refusal_injective, refusal_not_zero}
use Rattle.rules.specs.History.{stepped}
use Rattle.rules.specs.Replies.{octets}
use Rattle.rules.specs.Step.{Outcome, step, step_tested, refused, done, decision}
use Rattle.ect.specs.CallHistory.{StepCall, number_returned, written, event_of}
use Rattle.ect.specs.Contract.{answer_number, answer_count}
use Rattle.ect.proofs.CallHistory.{StepContractMet, outcome, replies_are}

-- number and count say which answer it is
pub same_answer : (a c : Result ℕ Refusal) → answer_number a ≡ answer_number c → answer_count a ≡ answer_count c → a ≡ c
same_answer (Ok n) (Ok m) e f = ap Ok f
same_answer (Ok n) (Err d) e f = absurd (omega (arith, e, refusal_not_zero d))
same_answer (Err d) (Ok n) e f = absurd (omega (arith, e, refusal_not_zero d))
same_answer (Err c) (Err d) e f = ap Err (refusal_injective c d e)

module _ (b : Board) (os : List ℕ) (room : ℕ) where
  abbrev by_room : Bool → Outcome
  by_room x = cond x (refused (refusal_number refusal.BufferTooSmall) b) (cond (sound b) (done b (decision b os)) (refused (refusal_number refusal.UnsoundBoard) b))

  small : room < 128 → step b os room ≡ by_room true
  unfolding step step_tested
  small h = ap by_room (lt-ltb room 128 h)

  enough : 128 ≤ room → step b os room ≡ by_room false
  unfolding step step_tested
  enough h = ap by_room (le-ltb room 128 h)

-- with 128 octets or more the length of the buffer makes no difference
same_outcome : (b : Board) (os : List ℕ) (n m : ℕ) → 128 ≤ n → 128 ≤ m → step b os n ≡ step b os m
same_outcome b os n m h k = enough b os n h ∙ sym (enough b os m k)

module _ (b : Board) (c d : StepCall) (same : c.event ≡ d.event) (h : StepContractMet b c) (k : StepContractMet b d) where
  -- two calls on the same board and event, whatever lies in their buffers of at least 128 octets, return the same answer and board and write the same octets
  pub one_answer : 128 ≤ length c.before → 128 ≤ length d.before → (c.returned ≡ d.returned) × (written c ≡ written d)
  one_answer n m =
      let e : stepped b (event_of c) ≡ stepped b (event_of d) =
      ap (λ (os : List ℕ). step b os (length c.before)) same ∙ same_outcome b d.event (length c.before) (length d.before) n m in
      let number = (outcome h).answer ∙ ap (λ (o : Outcome). o.returned) e ∙ sym (outcome k).answer in
      let count = (outcome h).count ∙ ap (λ (o : Outcome). length (octets o.replies)) e ∙ sym (outcome k).count in
      let board = (outcome h).board ∙ ap (λ (o : Outcome). o.board) e ∙ sym (outcome k).board in (
        ap₂ (λ (a : Result ℕ Refusal) (x : Board). record { answer = a; board = x }) (same_answer c.returned.answer d.returned.answer number count) board,
        replies_are (outcome h) ∙ ap (λ (o : Outcome). octets o.replies) e ∙ sym (replies_are (outcome k)),
      )

-- an accepted event had a buffer of at least 128 octets
accepted_room : (b : Board) (c : StepCall) → StepContractMet b c → number_returned c ≡ 0 → 128 ≤ length c.before
accepted_room b c h e = go (ltb (length c.before) 128) refl
  where
    go : (x : Bool) → ltb (length c.before) 128 ≡ x → 128 ≤ length c.before
    go true t = absurd (omega (arith, sym e ∙ (outcome h).answer ∙ ap (λ (o : Outcome). o.returned) (small b c.event (length c.before) (ltb-true (length c.before) 128 t))))
    go false t = ltb-false (length c.before) 128 t

-- "a board and an event accepted on it now have exactly one octet string"
pub one_octet_string : (b : Board) (c d : StepCall) → c.event ≡ d.event → StepContractMet b c → StepContractMet b d → number_returned c ≡ 0 → number_returned d ≡ 0 → written c ≡ written d
one_octet_string b c d same h k x y = (one_answer b c d same h k (accepted_room b c h x) (accepted_room b d k y)).1
