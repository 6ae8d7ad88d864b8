-- What the reader's contract promises, taken by itself: whatever `is_subaddress_transfer` gives that meets its contract is whether the
-- octets are a SubaddressTransfer invoke of document 02.
use Prim.{tt}
use Prim.Native.Nat.{ℕ}
use mathlib.Core.Path.{◌≡◌}
use mathlib.Core.Bool.{Bool}
use mathlib.Core.List.{List}
use contract.Lifetimes.{Lfts}
use Rattle.octets.proofs.Lent.{lent_shared}
use Rattle.subaddresses.specs.SubaddressTransfer.{is_subaddress_transfer}
use Rattle.subaddresses.proofs.is_subaddress_transfer.Reads as read-contract

-- `is_subaddress_transfer` was lent octets, and returned r
pub record ReadMet (s : List ℕ) (r : Bool) : Type 0 where
  pub lifetimes : Lfts 1
  pub component_at : ℕ × ℕ
  pub met : read-contract.Post lifetimes (lent_shared component_at s, tt) r (lent_shared component_at s, tt)

pub read_promise : (s : List ℕ) (r : Bool) → ReadMet s r → r ≡ is_subaddress_transfer s
read_promise s r h = h.met
