use Rattle.std.proofs.Common.{◌≤◌, length}
use Rattle.ect_console.proofs.read_all.Given as goal

abbrev pub invariant-loop : goal.invariant-loop
invariant-loop g l = l.count ≤ length l.buffer
