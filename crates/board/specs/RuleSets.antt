-- The rule set of a board, by its options (document 02, slip 7).
use Rattle.std.specs.Prelude.{Bool, ◌||◌, cond, eqb, leb}
use Rattle.board.specs.declared.Options.{Options}
-- the rules by which calls pair, and by which parties are told
use Rattle.board.specs.declared.RuleSet.{RuleSet}
use Rattle.board.specs.declared.RuleSet.TheVariants.{European, American}

-- "The second option octet may be 2 or 3: American rules"
abbrev pub rule_set : Options → RuleSet
rule_set o = cond (leb 2 o.alerting) American European

-- "without and with alerting transfer"
abbrev pub alerting_allowed : Options → Bool
alerting_allowed o = eqb o.alerting 1 || eqb o.alerting 3
