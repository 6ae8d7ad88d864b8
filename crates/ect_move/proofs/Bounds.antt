-- What was moved lies in the target, and whole records in their piece. Assumes nothing.
use Prim.Native.Nat.{ℕ, ◌≤◌}
use native.Mathlib.Omega.{arith}
use mathlib.Core.List.{List}
use lib.ListN.{length, drop, length-append}
use Rattle.std.specs.Prelude.{Result, Ok, Err, IfOk}
use Rattle.events.specs.Code.Pieces.{whole_in}
use Rattle.events.proofs.LogRecords.{parted}
use Rattle.log_forms.specs.declared.NotMoved.{NotMoved}
use Rattle.log_forms.specs.Contract.{Moves}

pub within : (o : Result (List ℕ) NotMoved) (before after : List ℕ) (r : Result ℕ NotMoved) → Moves o before r after → IfOk r (λ (n : ℕ). n ≤ length after)
within (Ok os) before after r m = rw (m.answer, m.target) (omega (arith, length-append os (drop (length os) before)))
within (Err e) before after r m = rw m.answer tt

pub whole_within : (piece : List ℕ) → (whole_in piece).octets ≤ length piece
whole_within piece = (parted piece).within
