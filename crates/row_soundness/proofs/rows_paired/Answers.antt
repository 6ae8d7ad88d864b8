use mathlib.Core.Path.{sym, ◌∙◌}
use Rattle.row_soundness.proofs.KeyLaws.{paired_joined}
use Rattle.row_soundness.proofs.rows_paired.Goals as goal

pub returns-then-own : goal.returns-then-own
returns-then-own c =
    c.answers.ensures
    ∙ paired_joined c.args.a c.args.b (sym c.joined_leg.ensures ∙ c.in-Some-Some.is-0) (sym c.joined_leg-2.ensures ∙ c.in-Some-Some.is-1) c.if-own.true
