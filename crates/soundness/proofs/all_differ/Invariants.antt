use Rattle.std.proofs.Common.{◌≡◌, length}
use Rattle.octets.specs.Lists.{distinct}
use Rattle.soundness.proofs.all_differ.Given as goal

abbrev pub invariant-loop-value : goal.invariant-loop-value
invariant-loop-value g l = let eq = g.T.PartialEq.eq in distinct eq l.rest ≡ distinct eq l.column

abbrev pub decreases-loop-value : goal.decreases-loop-value
decreases-loop-value g l = length l.rest
