-- What may be there or not: tests of it, what is found in it; and a test as a number.
use Rattle.std.specs.Prelude.{ℕ, Bool, true, false, None, Option, Some}

module _ {A : Type 0} where
  -- there is something, and it passes the test
  abbrev pub has : (A → Bool) → Option A → Bool
  has p None = false
  has p (Some x) = p x

  -- there is nothing, or it passes the test
  abbrev pub none_or : (A → Bool) → Option A → Bool
  none_or p None = true
  none_or p (Some x) = p x

  -- both are there, and the test holds of the two
  abbrev pub has_both : (A → A → Bool) → Option A → Option A → Bool
  has_both t None o = false
  has_both t (Some x) None = false
  has_both t (Some x) (Some y) = t x y

module _ {A B : Type 0} where
  -- what f finds in what is there
  abbrev pub bind_option : (A → Option B) → Option A → Option B
  bind_option f None = None
  bind_option f (Some x) = f x

-- 1 where a test holds, for counts
abbrev pub bit : Bool → ℕ
bit true = 1
bit false = 0
