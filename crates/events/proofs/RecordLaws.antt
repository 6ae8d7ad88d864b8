-- Laws of event records. Assumes nothing.
use Prim.Native.Nat.{ℕ, ◌-◌, ◌<◌, ◌≤◌}
use native.Mathlib.Omega.{arith}
use mathlib.Core.Path.{◌≡◌, refl, ap, sym}
use mathlib.Core.List.{List, [], ◌∷◌}
use lib.ListN.{length, get_or, take, drop}
use Rattle.octets.proofs.Places.{rest}
use Rattle.events.specs.declared.Refusal.TheVariants.{WrongLength}
use Rattle.events.specs.EventRecords.{Malformed, of_kind, request}

pub no_kind : (os : List ℕ) → length os < 1 → request os ≡ Malformed WrongLength
unfolding request
no_kind [] h = refl
no_kind (k ∷ b) h = absurd (omega arith)

-- the kind, then the body, which is the rest of the record
pub kind_first : (os : List ℕ) → 1 ≤ length os → request os ≡ of_kind (get_or os 0 0) (take (length os - 1) (drop 1 os))
unfolding request
kind_first [] h = absurd (omega arith)
kind_first (k ∷ b) h = ap (of_kind k) (sym (rest 1 (k ∷ b)))
