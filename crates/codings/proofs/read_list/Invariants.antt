-- The loop reads at most what there is room for, and each turn reads something.
use Rattle.std.proofs.Common.{◌≤◌, ◌-◌, length}
use Rattle.codings.proofs.read_list.Given as goal

abbrev pub invariant-loop-held : goal.invariant-loop-held
invariant-loop-held g l = l.held ≤ length l.list

abbrev pub decreases-loop-held : goal.decreases-loop-held
decreases-loop-held g l = length l.initial.list - l.held
