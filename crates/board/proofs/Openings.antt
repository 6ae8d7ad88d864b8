-- What the two openings take (document 02, slip 9).
use Prim.Native.Nat.{ℕ}
use mathlib.Core.Path.{◌≡◌, ap, refl}
use mathlib.Core.Bool.{Bool, true, false, cond}
use lib.Dec.{eqb}
use Rattle.std.specs.Prelude.{None, Option, Some, is_none}
use Rattle.board.specs.declared.Options.{Options}
use Rattle.board.specs.Making.{Live, ForOldLog, options, empty_board, made, range_refusal, takes, fresh}
use Rattle.board.specs.Soundness.{valid_options}

-- "Making a live board with 1 is no longer possible"; "14 .., before the second octet is judged": whatever it is
pub retired : (a : ℕ) → fresh Live 1 a ≡ record { returned = 14; board = empty_board (options 0 0) }
unfolding fresh
retired a = refl

-- with another first octet than 1 the two openings give the same
pub same_unless_1 : (s a : ℕ) → eqb s 1 ≡ false → fresh Live s a ≡ fresh ForOldLog s a
unfolding fresh
same_unless_1 s a h = ap (λ (x : Bool). made (options s a) (cond x (Some 14) (range_refusal (options s a)))) h

-- the opening for old logs takes just the options that "a sound board may carry"
pub old_logs_take : (o : Options) → takes ForOldLog o ≡ valid_options o
old_logs_take o = go (valid_options o)
  where
    go : (v : Bool) → is_none (cond {A = Option ℕ} v None (Some 5)) ≡ v
    go true = refl
    go false = refl
