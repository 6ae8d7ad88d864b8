-- The lines are parts of what was read, so that they end.
use Rattle.codings.proofs.main.Given as goal

abbrev pub invariant-loop-octets : goal.invariant-loop-octets
invariant-loop-octets l =
    (goal.iterator-loop-octets).can_next l.octets-iterator ×
    (goal.iterator-loop-octets).is_finite l.octets-iterator
