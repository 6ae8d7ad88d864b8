-- What an answer of judging says of the records. Assumes nothing.
use Prim.Native.Nat.{ℕ, ◌+◌}
use native.Mathlib.Omega.{arith}
use mathlib.Core.Path.{◌≡◌, refl}
use mathlib.Core.List.{List}
use lib.ListN.{length}
use Rattle.std.specs.Prelude.{None, Option, Some, Ok, Err}
use Rattle.log_archives.specs.declared.BadRecord.{BadRecord}
use Rattle.log_archives.specs.declared.NotRegrouped.{NotRegrouped}
use Rattle.log_archives.specs.declared.NotRegrouped.TheVariants.{Bad}
use Rattle.log_archives.specs.Judging.{first_bad}
use Rattle.log_archives.specs.Code.Judging.{bad_or, judged}

module _ (rs : List (List ℕ)) where
  pub found_bad : (why : NotRegrouped) → Err why ≡ judged 0 rs → (bad : BadRecord) × (first_bad 0 rs ≡ Some bad) × (why ≡ Bad bad)
  found_bad why e = go (first_bad 0 rs) refl e
    where
      go : (o : Option BadRecord) → first_bad 0 rs ≡ o → Err why ≡ bad_or o (0 + length rs) → (bad : BadRecord) × (first_bad 0 rs ≡ Some bad) × (why ≡ Bad bad)
      go None h e = absurd (let z : ◌≡◌ {A = ℕ} 0 1 = cc in omega arith)
      go (Some b) h e = (b, h, cc)

  pub found_good : (n : ℕ) → Ok n ≡ judged 0 rs → (first_bad 0 rs ≡ None) × (n ≡ length rs)
  found_good n e = go (first_bad 0 rs) refl e
    where
      go : (o : Option BadRecord) → first_bad 0 rs ≡ o → Ok n ≡ bad_or o (0 + length rs) → (first_bad 0 rs ≡ None) × (n ≡ length rs)
      go None h e = let k : n ≡ 0 + length rs = cc in (h, omega arith)
      go (Some b) h e = absurd (let z : ◌≡◌ {A = ℕ} 0 1 = cc in omega arith)
