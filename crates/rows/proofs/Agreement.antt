-- On the rows of a board, what is answered of lent rows is what the board answers: whatever the functions give that meets their contracts
-- is the same. The functions over lent rows stand behind `lookup_in` and `count_in`, which lend them the rows.
use Prim.{tt}
use Rattle.std.specs.Prelude.{ℕ, Option, Result}
use mathlib.Core.Path.{◌≡◌, sym, ◌∙◌}
use Rattle.board.specs.declared.Board.{Board}
use Rattle.board.specs.declared.Counts.{Counts}
use Rattle.board.specs.declared.Unsound.{Unsound}
use Rattle.octets.specs.declared.CallReference.{CallReference}
use Rattle.board.proofs.Answers.{same_found, same_counted}
use Rattle.board.proofs.Promises.{lookup_promise}
use Rattle.soundness.proofs.Promises.{count_promise}
use Rattle.board.proofs.finding.lookup.Reads as board-lookup
use Rattle.soundness.proofs.count.Reads as board-count
use Rattle.rows.proofs.lookup_in.Reads as lookup-in
use Rattle.rows.proofs.count_in.Reads as count-in

-- `board::finding::lookup` gives f, and `lookup_in` gives g
pub lookups_agree : (b : Board) (r : CallReference) (f g : Option ℕ) →
    board-lookup.Post tt (b, (r, tt)) f (b, (r, tt)) → lookup-in.Post tt (b.rows, (r, tt)) g (b.rows, (r, tt)) → f ≡ g
lookups_agree b r f g e h = same_found f g (lookup_promise b r f e ∙ sym h)

-- `soundness::count` gives c, and `count_in` gives d
pub counts_agree : (b : Board) (c d : Result Counts Unsound) →
    board-count.Post tt (b, tt) c (b, tt) → count-in.Post tt (b.rows, tt) d (b.rows, tt) → c ≡ d
counts_agree b c d e h = same_counted c d (count_promise b c e ∙ sym h)
