-- What was packed or unpacked lies in the target. Assumes nothing.
use Prim.Native.Nat.{ℕ, ◌≤◌}
use native.Mathlib.Omega.{arith}
use mathlib.Core.List.{List}
use lib.ListN.{length, drop, length-append}
use Rattle.std.specs.Prelude.{Result, Ok, Err, IfOk}
use Rattle.log_archives.specs.declared.NotRegrouped.{NotRegrouped}
use Rattle.log_archives.specs.Contract.{Regroups}

pub within : (o : Result (List ℕ) NotRegrouped) (before after : List ℕ) (r : Result ℕ NotRegrouped) → Regroups o before r after → IfOk r (λ (n : ℕ). n ≤ length after)
within (Ok os) before after r m = rw (m.answer, m.target) (omega (arith, length-append os (drop (length os) before)))
within (Err e) before after r m = rw m.answer tt
