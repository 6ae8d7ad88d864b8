-- What lookup and count answer, and the numbers that it stands for.
use Rattle.std.specs.Prelude.{None, Option, Some, Result, Ok, Err}
use Prim.Native.Nat.{ℕ}
use native.Mathlib.Omega.{arith}
use mathlib.Core.Path.{◌≡◌, refl, ap}
use mathlib.Core.Bool.{Bool, true, false, cond}
use mathlib.Core.List.{List}
use Rattle.board.specs.declared.Row.{Row}
use Rattle.board.specs.Lookup.{found_answer, lowest_place}
use Rattle.board.specs.declared.Counts.{Counts}
use Rattle.board.specs.declared.Unsound.{Unsound}
use Rattle.board.specs.Soundness.{sound_rows}
use Rattle.board.specs.Counts.{legs, pairs, links, counts, counted_answer}

-- ---- lookup

-- the lowest place as the code says it stands for what lookup gives
pub place_answer : (o : Option ℕ) → found_answer o ≡ lowest_place o
place_answer None = refl
place_answer (Some i) = refl

-- the number and the place tell the cases apart
pub same_found : (f g : Option ℕ) → found_answer f ≡ found_answer g → f ≡ g
same_found (Some i) (Some j) e = ap Some (ap (λ x. x.place) e)
same_found (Some i) None e = let z : ◌≡◌ {A = ℕ} 0 9 = ap (λ x. x.returned) e in absurd (omega arith)
same_found None (Some j) e = let z : ◌≡◌ {A = ℕ} 9 0 = ap (λ x. x.returned) e in absurd (omega arith)
same_found None None e = refl

-- ---- the count

-- the counts of sound rows as the code says them, or else that they are not sound, stand for what the count gives: in this crate nothing
-- else ties `counted_answer` to `counts`
abbrev pub counted : List Row → Bool → Result Counts Unsound
counted rows b = cond b (Ok (record { legs = legs rows; pairs = pairs rows; links = links rows })) (Err (record {}))

pub counts_answer : (rows : List Row) (b : Bool) → sound_rows rows ≡ b → counted_answer (counted rows b) ≡ counts rows
unfolding counts
counts_answer rows true e = rw e refl
counts_answer rows false e = rw e refl

-- the number and the counts tell the cases apart
pub same_counted : (c d : Result Counts Unsound) → counted_answer c ≡ counted_answer d → c ≡ d
same_counted (Ok c) (Ok d) e = ap Ok same
  where
    same : c ≡ d
    same = λ i. record { legs = (e i).legs; pairs = (e i).pairs; links = (e i).links }
same_counted (Ok c) (Err u) e = let z : ◌≡◌ {A = ℕ} 0 2 = ap (λ x. x.returned) e in absurd (omega arith)
same_counted (Err u) (Ok d) e = let z : ◌≡◌ {A = ℕ} 2 0 = ap (λ x. x.returned) e in absurd (omega arith)
same_counted (Err u) (Err v) e = refl
