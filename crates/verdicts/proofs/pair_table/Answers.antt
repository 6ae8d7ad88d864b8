use mathlib.Core.Path.{ap, sym}
use mathlib.Core.List.{flat_map}
use Rattle.board.specs.declared.RuleSet.{RuleSet}
use Rattle.rules.specs.Pairing.{verdict}
use Rattle.verdicts.specs.Tables.{table_of}
use Rattle.verdicts.proofs.pair_table.Goals as goal

pub returns-in-European : goal.returns-in-European
unfolding table_of flat_map
returns-in-European c = ap (λ (r : RuleSet). table_of (verdict r)) (sym c.in-European.is)

pub returns-in-American : goal.returns-in-American
unfolding table_of flat_map
returns-in-American c = ap (λ (r : RuleSet). table_of (verdict r)) (sym c.in-American.is)
