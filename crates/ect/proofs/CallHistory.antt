-- Demand 3 over the contracts: of the board that either opening returned, `board::fresh` or `fresh_for_old_log`, and of what every chain of calls of `step` returned and left in its buffers.
use Prim.{tt}
use Rattle.std.specs.Prelude.{Result}
use Prim.Native.Nat.{ℕ}
use mathlib.Core.Path.{◌≡◌, ◌∙◌, ap, ap₂, refl, sym, subst}
use mathlib.Core.Bool.{false}
use mathlib.Core.List.{List, [], ◌∷◌, ◌++◌, map}
use lib.Dec.{eqb, T}
use lib.ListN.{length, take, drop}
use lib.Seq.{take_at}
use base.Fml.{GName}
use contract.Lifetimes.{Lfts}
use Rattle.octets.proofs.Lent.{lent, lent_shared}
use Rattle.octets.proofs.Lists.{is_true, is_not}
use Rattle.board.specs.declared.Board.{Board}
use Rattle.board.specs.declared.BadOptions.{BadOptions}
use Rattle.board.specs.Making.{Opening, Live, ForOldLog, Made, made_answer, fresh}
use Rattle.rules.specs.Book.{fresh_book}
use Rattle.rules.specs.History.{stepped, returns, board_at, accepted}
use Rattle.rules.specs.Replies.{error_octets, octets}
use Rattle.rules.specs.Step.{Outcome}
use Rattle.rules.proofs.Errors.{unharmed, octets_error, untouched_step}
use Rattle.rules.proofs.WholeHistory.{whole_history}
use Rattle.ect.specs.CallHistory.{StepCall, CallHistory, last_board, number_returned, written, event_of, events}
use Rattle.ect.specs.Contract.{OutcomeOf, answer_count}
use Rattle.ect.specs.declared.Stepped.{Stepped}
use Rattle.board.proofs.Promises.{fresh_promise, fresh_for_old_log_promise}
use Rattle.board.proofs.fresh.Reads as fresh-contract
use Rattle.board.proofs.fresh_for_old_log.Reads as fresh-for-old-log-contract
use Rattle.ect.proofs.step.Reads as step-contract

-- ---- the premise

-- the call of `step` on the board b met its contract
pub record StepContractMet (b : Board) (c : StepCall) : Type 0 where
  pub lifetimes : Lfts 2
  pub event_at : ℕ × ℕ
  pub buffer_at : (ℕ × ℕ) × GName
  pub met :
      step-contract.Post lifetimes (b, (lent_shared event_at c.event, (lent buffer_at c.before, tt))) c.returned
      (b, (lent_shared event_at c.event, (lent buffer_at c.after, tt)))

-- each call met the contract on the board that the last one returned. `step` is proved, so every run of calls gives a chain.
unfoldable pub Chain : Board → List StepCall → Type 0
Chain b [] = Unit {0}
Chain b (c ∷ cs) = StepContractMet b c × Chain c.returned.board cs

-- ---- what a chain shows

-- the octets that an answer counts, as they lie in the buffer, are the replies
pub replies_are : {o : Outcome} {before after : List ℕ} {r : Stepped} → OutcomeOf o before r after → take (answer_count r.answer) after ≡ octets o.replies
replies_are {o} {before} s =
    let os = octets o.replies in
    ap₂ take s.count s.buffer ∙ take_at os (drop (length os) before) (length os) refl

-- the call at a place of a chain
met_at : (b : Board) (pre post : List StepCall) (c : StepCall) → Chain b (pre ++ (c ∷ post)) → StepContractMet (last_board b pre) c
unfolding Chain last_board
met_at b [] post c h = h.0
met_at b (d ∷ pre) post c h = met_at d.returned.board pre post c h.1

module _ {b : Board} {c : StepCall} (h : StepContractMet b c) where
  pub outcome : OutcomeOf (stepped b (event_of c)) c.before c.returned c.after
  outcome = h.met

  error_leaves : T (error_octets (written c)) → c.returned.board ≡ b
  error_leaves e = outcome.board ∙ unharmed b (event_of c) (octets_error _ (ap error_octets (sym (replies_are outcome)) ∙ is_true _ e))

  refusal_leaves : eqb (number_returned c) 0 ≡ false → (c.returned.board ≡ b) × (c.after ≡ c.before)
  unfolding octets
  refusal_leaves e =
      let o = untouched_step b (event_of c) (ap (λ (n : ℕ). eqb n 0) (sym outcome.answer) ∙ e) in
      (outcome.board ∙ ap (λ (x : Outcome). x.board) o, outcome.buffer ∙ ap (λ (x : Outcome). octets x.replies ++ drop (length (octets x.replies)) c.before) o)

last_board_lem : (b : Board) (calls : List StepCall) → Chain b calls → last_board b calls ≡ board_at b (events calls)
unfolding Chain last_board board_at
last_board_lem b [] h = refl
last_board_lem b (c ∷ cs) h = last_board_lem c.returned.board cs h.1 ∙ ap (λ (x : Board). board_at x (events cs)) (outcome h.0).board

returned_numbers : (b : Board) (calls : List StepCall) → Chain b calls → map number_returned calls ≡ returns b (events calls)
unfolding Chain returns
returned_numbers b [] h = refl
returned_numbers b (c ∷ cs) h =
    ap₂ (λ (n : ℕ) (ns : List ℕ). n ∷ ns) (outcome h.0).answer
    (returned_numbers c.returned.board cs h.1 ∙ ap (λ (x : Board). returns x (events cs)) (outcome h.0).board)

-- ---- the theorem

-- the board that making returned, also where it refused
abbrev pub board_in : Result Board BadOptions → Board
board_in made = (made_answer made).board

-- making a board gave this by the contract of the opening
abbrev pub OpeningContractMet : Opening → ℕ → ℕ → Result Board BadOptions → Type 0
OpeningContractMet Live s a made = fresh-contract.Post tt (s, (a, tt)) made (s, (a, tt))
OpeningContractMet ForOldLog s a made = fresh-for-old-log-contract.Post tt (s, (a, tt)) made (s, (a, tt))

opening_promise : (way : Opening) (s a : ℕ) (made : Result Board BadOptions) → OpeningContractMet way s a made → made_answer made ≡ fresh way s a
opening_promise Live s a made f = fresh_promise s a made f
opening_promise ForOldLog s a made f = fresh_for_old_log_promise s a made f

-- for either opening and all option octets, whatever it returned by its contract, and for every chain of calls that begins with the board in it
pub calls_history : (way : Opening) (s a : ℕ) (made : Result Board BadOptions) → OpeningContractMet way s a made →
    (calls : List StepCall) → Chain (board_in made) calls → CallHistory (board_in made) (fresh_book way s a) calls
calls_history way s a made f calls h =
    let w = whole_history way s a (events calls) in
    record {
      refusals = numbers_are ∙ w.refusals;
      history_is = ap (λ (ns : List ℕ). accepted ns (events calls)) numbers_are ∙ w.history_is;
      history_accepted = w.history_accepted;
      history_book = w.history_book;
      agree = rw board_at_lem w.agree;
      presence = λ l. rw board_at_lem (w.presence l);
      partner = λ l v. rw board_at_lem (w.partner l v);
      link_ids = rw board_at_lem w.link_ids;
      errors = λ pre post c p e. error_leaves (at pre post c p) e;
      untouched = λ pre post c p e. refusal_leaves (at pre post c p) (is_not (is_true _ e));
      sound_board = rw board_at_lem w.sound_board;
    }
  where
    board_at_lem : last_board (board_in made) calls ≡ board_at (fresh way s a).board (events calls)
    board_at_lem = last_board_lem (board_in made) calls h ∙ ap (λ (m : Made). board_at m.board (events calls)) (opening_promise way s a made f)

    numbers_are : map number_returned calls ≡ returns (fresh way s a).board (events calls)
    numbers_are = returned_numbers (board_in made) calls h ∙ ap (λ (m : Made). returns m.board (events calls)) (opening_promise way s a made f)

    at : (pre post : List StepCall) (c : StepCall) → calls ≡ pre ++ (c ∷ post) → StepContractMet (last_board (board_in made) pre) c
    at pre post c p = met_at (board_in made) pre post c (subst (Chain (board_in made)) p h)
