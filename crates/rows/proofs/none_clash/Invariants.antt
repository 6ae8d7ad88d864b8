use Rattle.std.proofs.Common.{◌≡◌, length}
use Rattle.octets.specs.Lists.{distinct}
use Rattle.board.specs.Code.RowTests.{clash}
use Rattle.rows.proofs.none_clash.Given as goal

abbrev pub invariant-loop-row : goal.invariant-loop-row
invariant-loop-row l = distinct clash l.rest ≡ distinct clash l.rows

abbrev pub decreases-loop-row : goal.decreases-loop-row
decreases-loop-row l = length l.rest
