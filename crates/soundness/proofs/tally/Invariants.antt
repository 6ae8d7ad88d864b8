use Rattle.octets.proofs.Loops.{Counting}
use Rattle.board.specs.Code.RowTests.{taken_row, joined_row, linked_row}
use Rattle.soundness.proofs.tally.Given as goal

abbrev pub invariant-loop-row : goal.invariant-loop-row
invariant-loop-row l = Counting taken_row l.rows l.row-index l.tally.legs × Counting joined_row l.rows l.row-index l.tally.joined × Counting linked_row l.rows l.row-index l.tally.links
