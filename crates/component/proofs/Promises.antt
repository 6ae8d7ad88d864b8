-- What the reader's contract promises, taken by itself: whatever `read` gives that meets its contract is what document 01 says.
use Prim.{tt}
use Prim.Native.Nat.{ℕ}
use mathlib.Core.Path.{◌≡◌}
use mathlib.Core.List.{List}
use contract.Lifetimes.{Lfts}
use Rattle.octets.proofs.Lent.{lent_shared}
use Rattle.component.specs.declared.Reading.{Reading}
use Rattle.component.specs.Reading.{reading}
use Rattle.component.proofs.read.Reads as read-contract

-- `read` was lent octets, and returned r
pub record ReadMet (s : List ℕ) (r : Reading) : Type 0 where
  pub lifetimes : Lfts 1
  pub component_at : ℕ × ℕ
  pub met : read-contract.Post lifetimes (lent_shared component_at s, tt) r (lent_shared component_at s, tt)

pub read_promise : (s : List ℕ) (r : Reading) → ReadMet s r → r ≡ reading s
read_promise s r h = h.met
