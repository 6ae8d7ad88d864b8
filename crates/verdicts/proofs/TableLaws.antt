-- Tables of any rule that looks at situations alone: the entry for two calls is what the rule says of them.
use Rattle.std.proofs.lemmas.List.{get_or-map}
use Prim.Native.Nat.{ℕ}
use mathlib.Core.Path.{◌≡◌, ◌∙◌, refl, sym, ap, ap₂}
use mathlib.Core.List.{List, map, flat_map}
use lib.ListN.{get_or}
use Rattle.board.specs.declared.Call.{Call}
use Rattle.verdicts.specs.Situations.{situation, situations}
use Rattle.verdicts.specs.Tables.{table_of, verdict_in}
use Rattle.verdicts.proofs.SituationLaws.{situation_below, piece_at, plain, no_call, call_at}

-- the rule says the same of all calls in the same situations
abbrev pub OnSituations : (Call → Call → ℕ) → Type 0
OnSituations rule = (c d : Call) → rule (plain c) (plain d) ≡ rule c d

pub table_is_rule : (rule : Call → Call → ℕ) → OnSituations rule → (c d : Call) → verdict_in (table_of rule) c d ≡ rule c d
unfolding table_of flat_map
table_is_rule rule on c d =
    piece_at (λ (x : Call). map (rule x) situations) 32 (λ x. refl) situations (situation c) (situation d) no_call 0 (situation_below c) (situation_below d)
    ∙ get_or-map (rule (get_or situations (situation c) no_call)) situations (situation d) no_call 0 (situation_below d)
    ∙ ap₂ rule (call_at c) (call_at d)
    ∙ on c d

-- the rule with its two calls exchanged
abbrev pub exchanged : (Call → Call → ℕ) → Call → Call → ℕ
exchanged rule c d = rule d c

-- where the table is the same with its situations exchanged, the rule is the same with its calls exchanged
pub rule_reversible : (rule : Call → Call → ℕ) → OnSituations rule → table_of (exchanged rule) ≡ table_of rule → (c d : Call) → rule d c ≡ rule c d
rule_reversible rule on e c d =
    sym (table_is_rule (exchanged rule) (λ x y. on y x) c d)
    ∙ ap (λ (t : List ℕ). verdict_in t c d) e
    ∙ table_is_rule rule on c d
