-- The lines after an event, by what `step` returned.
use Prim.Native.Nat.{ℕ}
use mathlib.Core.Path.{◌≡◌, refl, ap, ◌∙◌, sym}
use mathlib.Core.Bool.{Bool, true, false, cond}
use mathlib.Core.List.{List, map}
use lib.Dec.{eqb}
use Rattle.std.specs.Prelude.{Result, Ok, Err, is_ok}
use Rattle.board.specs.declared.Board.{Board}
use Rattle.events.specs.declared.Refusal.{Refusal}
use Rattle.rules.specs.Step.{Outcome}
use Rattle.rules.proofs.Decided.{refusal_not_0}
use Rattle.ect.specs.Contract.{OutcomeOf, answer_number}
use Rattle.ect.specs.declared.Stepped.{Stepped}
use Rattle.attendant_console.specs.Screen.{Line, shown_on, redrawn_line, lines_after}
use Rattle.attendant_console.specs.Code.Redrawing.{redrawn_lines}

lines_are : (b : Board) (ls : List Line) → redrawn_lines b.rows ls ≡ map (redrawn_line b) ls
unfolding redrawn_lines shown_on
lines_are b ls = refl

answer_0 : (a : Result ℕ Refusal) → eqb (answer_number a) 0 ≡ is_ok a
answer_0 (Ok n) = refl
answer_0 (Err c) = refusal_not_0 c

module _ {o : Outcome} {before after : List ℕ} {r : Stepped} (s : OutcomeOf o before r after) (ls : List Line) where
  by_answer : {b : Bool} → is_ok r.answer ≡ b → lines_after o ls ≡ cond b (map (redrawn_line o.board) ls) ls
  unfolding lines_after
  by_answer e = ap (λ (b : Bool). cond b (map (redrawn_line o.board) ls) ls) (ap (λ (n : ℕ). eqb n 0) (sym s.answer) ∙ answer_0 r.answer ∙ e)

  pub accepted_lines : is_ok r.answer ≡ true → redrawn_lines r.board.rows ls ≡ lines_after o ls
  accepted_lines e = lines_are r.board ls ∙ ap (λ (b : Board). map (redrawn_line b) ls) s.board ∙ sym (by_answer e)

  pub refused_lines : is_ok r.answer ≡ false → ls ≡ lines_after o ls
  refused_lines e = sym (by_answer e)
