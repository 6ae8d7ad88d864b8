-- What the reader's contract promises, taken by itself: whatever `read_inform` gives that meets its contract is what document 02 says of
-- the octets as an EctInform invoke.
use Prim.{tt}
use Prim.Native.Nat.{ℕ}
use Rattle.std.specs.Prelude.{Option}
use mathlib.Core.Path.{◌≡◌}
use mathlib.Core.List.{List}
use contract.Lifetimes.{Lfts}
use Rattle.octets.proofs.Lent.{lent_shared}
use Rattle.private_transfers.specs.declared.EctInform.{EctInform}
use Rattle.private_transfers.specs.EctInform.{inform_in}
use Rattle.private_transfers.specs.Code.Readers.{inform_read}
use Rattle.private_transfers.proofs.read_inform.Reads as read-contract

-- `read_inform` was lent octets, and returned r
pub record ReadMet (s : List ℕ) (r : Option EctInform) : Type 0 where
  pub lifetimes : Lfts 1
  pub component_at : ℕ × ℕ
  pub met : read-contract.Post lifetimes (lent_shared component_at s, tt) r (lent_shared component_at s, tt)

pub read_promise : (s : List ℕ) (r : Option EctInform) → ReadMet s r → inform_read r ≡ inform_in s
read_promise s r h = h.met
