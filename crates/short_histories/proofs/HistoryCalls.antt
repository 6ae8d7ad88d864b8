-- The places give just the sequences that calls of `step` accept, over the contracts of `history_at`, `step` and the opening for old logs.
use Prim.{tt}
use Prim.Native.Nat.{ℕ, ◌-◌}
use native.Mathlib.Omega.{arith}
use mathlib.Core.Path.{◌≡◌, ◌∙◌, ap, ap₂, refl, sym, subst}
use mathlib.Core.Bool.{Bool, true, ◌&&◌}
use mathlib.Core.List.{List, [], ◌∷◌, map}
use lib.Dec.{eqb}
use lib.Seq.{take_at}
use lib.ListN.{length, take, replicate, get_or}
use Rattle.std.specs.Prelude.{None, Option, Some, Result, Ok, Err, slice_get}
use Rattle.std.proofs.lemmas.Option.{slice_get-get_or, slice_get_past}
use Rattle.octets.proofs.Lists.{left, right, eqb_eq}
use Rattle.octets.specs.Lists.{all}
use Rattle.board.specs.declared.Board.{Board}
use Rattle.board.specs.declared.BadOptions.{BadOptions}
use Rattle.board.specs.Making.{ForOldLog, Made}
use Rattle.rules.specs.History.{stepped}
use Rattle.rules.specs.Step.{Outcome, step}
use Rattle.ect.specs.CallHistory.{StepCall, number_returned, event_of}
use Rattle.ect.proofs.CallHistory.{StepContractMet, Chain, outcome, board_in, OpeningContractMet}
use Rattle.short_histories.specs.declared.History.{History}
use Rattle.short_histories.specs.declared.PastTheEnd.{PastTheEnd}
use Rattle.short_histories.specs.Sequences.{none_refused, ListsAll}
use Rattle.short_histories.specs.Histories.{record_numbered, accepts_number, after_number, first_board, histories, history_at, listed, listed_answer}
use Rattle.short_histories.specs.HistoryCalls.{PlaysNumbers, numbers_of, HistoriesOfCalls}
use Rattle.short_histories.proofs.Lists.{got_mem, mem_got, got_apart}
use Rattle.short_histories.proofs.Sequences.{lists_all}
use Rattle.short_histories.proofs.Computed.{lengths}
use Rattle.short_histories.proofs.history_at.Reads as history-contract

-- ---- the premises

-- the answer at each place met the contract of `history_at`
abbrev pub HistoryContractMet : (ℕ → Result History PastTheEnd) → Type 0
HistoryContractMet answer = (place : ℕ) → history-contract.Post tt (place, tt) (answer place) (place, tt)

-- calls that met the contract of `step` play the sequence, from the board that the opening for old logs made with 1 and 1
pub record PlaysFromFresh (ns : List ℕ) (calls : List StepCall) : Type 0 where
  pub made : Result Board BadOptions
  pub opened : OpeningContractMet ForOldLog 1 1 made
  pub chain : Chain (board_in made) calls
  pub plays : PlaysNumbers ns calls

-- ---- calls accept what the rules' step accepts_number

module _ (b : Board) (c : StepCall) (n : ℕ) (m : StepContractMet b c) (o : stepped b (event_of c) ≡ step b (record_numbered n) 128) where
  accepted : eqb (number_returned c) 0 ≡ accepts_number b n
  unfolding accepts_number
  accepted = ap (λ (x : ℕ). eqb x 0) ((outcome m).answer ∙ ap (λ (x : Outcome). x.returned) o)

  next : c.returned.board ≡ after_number b n
  unfolding after_number
  next = (outcome m).board ∙ ap (λ (x : Outcome). x.board) o

accepted_alike : (b : Board) (ns : List ℕ) (calls : List StepCall) → map (λ (c : StepCall). c.event) calls ≡ map record_numbered ns
    → all (λ (c : StepCall). eqb (length c.before) 128) calls ≡ true → Chain b calls
    → all (λ (c : StepCall). eqb (number_returned c) 0) calls ≡ none_refused accepts_number after_number b ns
unfolding Chain none_refused
accepted_alike b [] [] e s h = refl
accepted_alike b [] (c ∷ cs) e s h = absurd (let z = ap length e in omega arith)
accepted_alike b (n ∷ ns) [] e s h = absurd (let z = ap length e in omega arith)
accepted_alike b (n ∷ ns) (c ∷ cs) e s h =
    let e₀ : c.event ≡ record_numbered n = cc in
    let e₁ : map (λ (d : StepCall). d.event) cs ≡ map record_numbered ns = cc in
    let room : length c.before ≡ 128 = eqb_eq (length c.before) 128 (left (eqb (length c.before) 128) _ s) in
    let o : stepped b (event_of c) ≡ step b (record_numbered n) 128 = ap₂ (step b) e₀ room in
    ap₂ (λ (x y : Bool). x && y) (accepted b c n h.0 o)
    (accepted_alike c.returned.board ns cs e₁ (right (eqb (length c.before) 128) _ s) h.1 ∙ ap (λ (x : Board). none_refused accepts_number after_number x ns) (next b c n h.0 o))

-- ---- what an answer says of the list

listed_some : (h : History) (o : Option (List ℕ)) → listed_answer (Ok h) ≡ listed o → o ≡ Some (numbers_of h)
listed_some h None e = absurd (let z : ◌≡◌ {A = ℕ} 0 15 = ap (λ x. x.returned) e in omega arith)
listed_some h (Some ns) e = ap (λ (x : List ℕ). Some x)
    (sym (ap₂ take (ap (λ x. x.events) e) (ap (λ x. x.numbers) e) ∙ take_at ns (replicate (4 - length ns) 0) (length ns) refl))

-- the numbers of a history that is answered stand in the list at that place
got : (place : ℕ) (h : History) → listed_answer (Ok h) ≡ history_at place → slice_get histories place ≡ Some (numbers_of h)
unfolding history_at
got place h e = listed_some h (slice_get histories place) e

listed_at_place : (place : ℕ) {o : Option (List ℕ)} → slice_get histories place ≡ o → history_at place ≡ listed o
unfolding history_at
listed_at_place place e = ap listed e

answered_history : (r : Result History PastTheEnd) (ns : List ℕ) → listed_answer r ≡ listed (Some ns) → (h : History) × (r ≡ Ok h)
answered_history (Ok h) ns e = (h, refl)
answered_history (Err x) ns e = absurd (let z : ◌≡◌ {A = ℕ} 15 0 = ap (λ x. x.returned) e in omega arith)

board_is : {ns : List ℕ} {calls : List StepCall} (p : PlaysFromFresh ns calls) → board_in p.made ≡ first_board
unfolding first_board
board_is p = ap (λ (m : Made). m.board) p.opened

-- ---- the theorem

pub histories_of_calls : (answer : ℕ → Result History PastTheEnd) → HistoryContractMet answer → HistoriesOfCalls answer PlaysFromFresh
unfolding histories
histories_of_calls answer met = record {
  first_places = λ place l.
      let g = slice_get-get_or histories place [] (omega (arith, l, lengths.in_all)) in
      answered_history (answer place) (get_or histories place []) (met place ∙ listed_at_place place g);
  past = λ place l. met place ∙ listed_at_place place (slice_get_past histories place (omega (arith, l, lengths.in_all)));
  none_missing = λ ns calls l n p a.
      let r = mem_got histories (all_listed.none_missing ns l n (sym (alike ns calls p) ∙ a)) in
      (r.0, met r.0 ∙ listed_at_place r.0 r.1);
  only_such = λ place h e.
      let m = all_listed.only_such (numbers_of h) (got_mem histories place (found place h e)) in
      (m.0, m.1, m.2, λ calls p. alike (numbers_of h) calls p ∙ m.2);
  ascending = λ p q g h l e f.
      let s = got_apart histories p q l (found p g e) (found q h f) in
      all_listed.ascending s.0 s.1 s.2 (numbers_of g) (numbers_of h) s.3;
}
  where
    all_listed : ListsAll accepts_number after_number 4 first_board histories
    all_listed = lists_all accepts_number after_number 4 first_board

    alike : (ns : List ℕ) (calls : List StepCall) → PlaysFromFresh ns calls → all (λ (c : StepCall). eqb (number_returned c) 0) calls ≡ none_refused accepts_number after_number first_board ns
    alike ns calls p = accepted_alike first_board ns calls p.plays.events p.plays.buffers (subst (λ (b : Board). Chain b calls) (board_is p) p.chain)

    found : (place : ℕ) (h : History) → answer place ≡ Ok h → slice_get histories place ≡ Some (numbers_of h)
    found place h e = got place h (ap listed_answer (sym e) ∙ met place)
