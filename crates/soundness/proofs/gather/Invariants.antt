use Rattle.soundness.proofs.ColumnLaws.{ReadTo}
use Rattle.soundness.proofs.gather.Given as goal

abbrev pub invariant-loop-row : goal.invariant-loop-row
invariant-loop-row l = ReadTo l.rows l.row-index l.columns
