-- The pair rule (document 01, "Serving it"; ETS 300 369-1, table 4; document 02, slip 7; T1.643, table 2).
use Rattle.std.specs.Prelude.{ℕ, Bool, ◌&&◌, ◌||◌, cond, eqb}
use Rattle.board.specs.declared.Options.{Options}
use Rattle.board.specs.declared.Call.{Call}
use Rattle.board.specs.declared.RuleSet.{RuleSet}
use Rattle.board.specs.declared.RuleSet.TheVariants.{European, American}
use Rattle.board.specs.RuleSets.{rule_set, alerting_allowed}
use Rattle.board.specs.States.{active, delivered, idle, held, outgoing}

-- "exactly one auxiliary state is Call Held, the other Idle"
abbrev pub held_with_idle : Call → Call → Bool
held_with_idle c d = (held c && idle d) || (idle c && held d)

-- "The pair rule there allows neither call held as well as exactly one; Hold Request and Retrieve Request still
-- give 0."
abbrev pub auxiliaries_pair : RuleSet → Call → Call → Bool
auxiliaries_pair European c d = held_with_idle c d
auxiliaries_pair American c d = held_with_idle c d || (idle c && idle d)

-- "one Active and one Delivered and outgoing"
abbrev pub active_with_delivered : Call → Call → Bool
active_with_delivered c d = active c && delivered d && outgoing d

-- "both Active (verdict 1), or one Active and one Delivered and outgoing (verdict 2); else 0"; "names reversible"
abbrev pub verdict : RuleSet → Call → Call → ℕ
verdict r c d =
    cond (auxiliaries_pair r c d)
    (cond (active c && active d) 1
    (cond (active_with_delivered c d || active_with_delivered d c) 2 0))
    0

-- "Calls pair at verdict 1, and at verdict 2 if the alerting option is 1.", or 3
abbrev pub pairs_at : Options → ℕ → Bool
pairs_at o v = eqb v 1 || (eqb v 2 && alerting_allowed o)

unfoldable pub calls_pair : Options → Call → Call → Bool
calls_pair o c d = pairs_at o (verdict (rule_set o) c d)
