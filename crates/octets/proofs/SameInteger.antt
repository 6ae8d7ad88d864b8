-- The test of two integers tells equality.
use mathlib.Core.Path.{◌≡◌, ap, refl}
use mathlib.Core.Bool.{true}
use lib.IntN.{ℤ, pos, negsuc}
use Rattle.octets.proofs.Lists.{eqb_eq, true_not_false, eqb_self, eqb_sym}
use Rattle.octets.specs.Numbers.{same_integer}

pub same_integer_eq : (y z : ℤ) → same_integer y z ≡ true → y ≡ z
same_integer_eq (pos m) (pos n) h = ap pos (eqb_eq m n h)
same_integer_eq (pos m) (negsuc n) h = absurd (true_not_false h refl)
same_integer_eq (negsuc m) (pos n) h = absurd (true_not_false h refl)
same_integer_eq (negsuc m) (negsuc n) h = ap negsuc (eqb_eq m n h)

pub same_integer_self : (z : ℤ) → same_integer z z ≡ true
same_integer_self (pos n) = eqb_self n
same_integer_self (negsuc n) = eqb_self n

pub same_integer_sym : (y z : ℤ) → same_integer y z ≡ same_integer z y
same_integer_sym (pos m) (pos n) = eqb_sym m n
same_integer_sym (pos m) (negsuc n) = refl
same_integer_sym (negsuc m) (pos n) = refl
same_integer_sym (negsuc m) (negsuc n) = eqb_sym m n
