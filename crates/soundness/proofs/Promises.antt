-- Whatever `count` gives that meets its contract is what document 01 says of the board's rows.
use Prim.{tt}
use Rattle.std.specs.Prelude.{Result}
use mathlib.Core.Path.{◌≡◌}
use Rattle.board.specs.declared.Board.{Board}
use Rattle.board.specs.declared.Counts.{Counts}
use Rattle.board.specs.declared.Unsound.{Unsound}
use Rattle.board.specs.Counts.{counted_answer, counts}
use Rattle.soundness.proofs.count.Reads as counted

pub count_promise : (b : Board) (c : Result Counts Unsound) → counted.Post tt (b, tt) c (b, tt) → counted_answer c ≡ counts b.rows
count_promise b c e = e
