-- The tables of the pair rule.
use Prim.{tt}
use contract.Lifetimes.{Lfts}
use Rattle.std.proofs.Common.{Bor}
use Prim.Native.Nat.{ℕ, ◌+◌, ◌*◌}
use mathlib.Core.Path.{◌≡◌, ◌∙◌, refl, ap}
use mathlib.Core.List.{List, map, flat_map, [], ◌∷◌}
use lib.ListN.{length, get_or}
use Rattle.board.specs.declared.Call.{Call}
use Rattle.board.specs.declared.RuleSet.{RuleSet}
use Rattle.board.specs.declared.RuleSet.TheVariants.{European, American}
use Rattle.rules.specs.Pairing.{verdict}
use Rattle.verdicts.specs.Situations.{situation, situations}
use Rattle.verdicts.specs.Tables.{table_of, verdict_in, times}
use Rattle.verdicts.proofs.TableLaws.{OnSituations, table_is_rule, exchanged, rule_reversible}
use Rattle.verdicts.proofs.pair_table.Reads as pair-table

-- a call stands for each of the 32 situations, and the list has them by their numbers
pub in_order : map situation situations ≡ 0 ∷ 1 ∷ 2 ∷ 3 ∷ 4 ∷ 5 ∷ 6 ∷ 7 ∷ 8 ∷ 9 ∷ 10 ∷ 11 ∷ 12 ∷ 13 ∷ 14 ∷ 15 ∷ 16 ∷ 17 ∷ 18 ∷ 19 ∷ 20 ∷ 21 ∷ 22 ∷ 23 ∷ 24 ∷ 25 ∷ 26 ∷ 27 ∷ 28 ∷ 29 ∷ 30 ∷ 31 ∷ []
unfolding flat_map
in_order = refl

-- ---- of each rule set

verdict_on_situations : (r : RuleSet) → OnSituations (verdict r)
verdict_on_situations European c d = refl
verdict_on_situations American c d = refl

pub entry_is_verdict : (r : RuleSet) (c d : Call) → verdict_in (table_of (verdict r)) c d ≡ verdict r c d
entry_is_verdict r = table_is_rule (verdict r) (verdict_on_situations r)

-- whatever table `pair_table` gives by its contract, its entry at 32 times the one situation plus the other is the verdict, for all calls
pub table_is_verdict : (l : Lfts 1) (r : RuleSet) (t : Bor (List ℕ)) → pair-table.Post l (r, tt) t (r, tt) → (c d : Call) → get_or t.now (32 * situation c + situation d) 0 ≡ verdict r c d
table_is_verdict l r t e c d = ap (λ (x : List ℕ). verdict_in x c d) e ∙ entry_is_verdict r c d

-- the table is the same with its situations exchanged, and the verdict with its calls: "names reversible"
pub symmetric : (r : RuleSet) → table_of (exchanged (verdict r)) ≡ table_of (verdict r)
unfolding table_of flat_map
symmetric European = refl
symmetric American = refl

pub verdict_reversible : (r : RuleSet) (c d : Call) → verdict r d c ≡ verdict r c d
verdict_reversible r = rule_reversible (verdict r) (verdict_on_situations r) (symmetric r)

-- "a table of 1,024 verdicts"
pub long : (r : RuleSet) → length (table_of (verdict r)) ≡ 1024
unfolding table_of flat_map
long European = refl
long American = refl

-- ---- computed over the whole tables

-- "Eight entries are 1, eight are 2, the others 0"
pub eight_ones : times 1 (table_of (verdict European)) ≡ 8
unfolding table_of flat_map
eight_ones = refl

pub eight_twos : times 2 (table_of (verdict European)) ≡ 8
unfolding table_of flat_map
eight_twos = refl

pub others_zero : times 0 (table_of (verdict European)) ≡ 1008
unfolding table_of flat_map
others_zero = refl

-- the companion: twelve and twelve
pub twelve_ones : times 1 (table_of (verdict American)) ≡ 12
unfolding table_of flat_map
twelve_ones = refl

pub twelve_twos : times 2 (table_of (verdict American)) ≡ 12
unfolding table_of flat_map
twelve_twos = refl

pub american_others_zero : times 0 (table_of (verdict American)) ≡ 1000
unfolding table_of flat_map
american_others_zero = refl
