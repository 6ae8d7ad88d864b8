-- Laws of digits in the code's terms: an octet at its place, and the first 15 octets. Assumes nothing.
use Prim.Native.Nat.{min, ℕ, zero, suc, ◌≤◌, ◌<◌}
use native.Mathlib.Omega.{arith}
use mathlib.Core.Path.{◌≡◌, refl, sym, ap}
use mathlib.Core.List.{List, [], ◌∷◌, ◌++◌}
use Rattle.std.proofs.lemmas.List.{take-replicate}
use lib.ListN.{length, take, drop, replicate}
use Rattle.digits.specs.Digits.{in_fifteen}

-- ---- octets in front of zeros

-- octets copied over the front of zeros: all of them, or as many as there are zeros
copied : (n m k : ℕ) (s : List ℕ) → n ≤ m → m ≤ k → n ≤ length s → (n < m → length s ≤ n) →
    take n s ++ drop n (replicate m 0) ≡ take m (s ++ replicate k 0)
copied zero zero k s h l i j = refl
copied zero (suc m) k [] h l i j = sym (take-replicate (suc m) k 0 l)
copied zero (suc m) k (x ∷ s) h l i j = absurd (let e = j (omega arith) in omega arith)
copied (suc n) m k [] h l i j = absurd (omega arith)
copied (suc n) zero k (x ∷ s) h l i j = absurd (omega arith)
copied (suc n) (suc m) k (x ∷ s) h l i j =
    ap (λ (r : List ℕ). x ∷ r) (copied n m k s (omega arith) (omega arith) (omega arith) (λ e. let f = j (omega arith) in omega arith))

pub fifteen_copied : (s : List ℕ) → take (min (length s) 15) s ++ drop (min (length s) 15) (replicate 15 0) ≡ in_fifteen s
fifteen_copied s = copied (min (length s) 15) 15 15 s (omega arith) (omega arith) (omega arith) (λ e. omega arith)
