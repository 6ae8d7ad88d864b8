-- What contracts promise, taken by themselves: whatever a function gives that meets its contract is what document 01 says.
use Prim.{tt}
use Rattle.std.specs.Prelude.{Option, Result}
use Prim.Native.Nat.{ℕ}
use mathlib.Core.Path.{◌≡◌}
use Rattle.octets.specs.declared.CallReference.{CallReference}
use Rattle.board.specs.declared.Board.{Board}
use Rattle.board.specs.declared.BadOptions.{BadOptions}
use Rattle.board.specs.Making.{Live, ForOldLog, made_answer, fresh}
use Rattle.board.specs.Lookup.{found_answer, lookup}
use Rattle.board.proofs.fresh.Reads as made
use Rattle.board.proofs.fresh_for_old_log.Reads as made-for-old-log
use Rattle.board.proofs.finding.lookup.Reads as looked-up

-- `fresh` gives m
pub fresh_promise : (s a : ℕ) (m : Result Board BadOptions) → made.Post tt (s, (a, tt)) m (s, (a, tt)) → made_answer m ≡ fresh Live s a
fresh_promise s a m e = e

-- `fresh_for_old_log` gives m
pub fresh_for_old_log_promise : (s a : ℕ) (m : Result Board BadOptions) → made-for-old-log.Post tt (s, (a, tt)) m (s, (a, tt)) → made_answer m ≡ fresh ForOldLog s a
fresh_for_old_log_promise s a m e = e

-- `finding::lookup` gives f
pub lookup_promise : (b : Board) (r : CallReference) (f : Option ℕ) → looked-up.Post tt (b, (r, tt)) f (b, (r, tt)) → found_answer f ≡ lookup r.0 b.rows
lookup_promise b r f e = e
