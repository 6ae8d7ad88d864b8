-- The part in front of the first comma, as the code finds where it ends; and which of the two parts is the name.
use Prim.Native.Nat.{ℕ, ◌≤◌}
use native.Mathlib.Omega.{arith}
use mathlib.Core.Path.{◌≡◌, refl, ap, ◌∙◌}
use mathlib.Core.Bool.{Bool, true, false, cond, not}
use mathlib.Core.List.{List, [], ◌∷◌}
use lib.ListN.{length, take}
use lib.Dec.{eqb, ltb}
use Rattle.std.specs.Prelude.{Option, None, Some, position}
use Rattle.std.specs.Option.{unwrap_or}
use Rattle.std.specs.List.{position_or_len, before_first}
use Rattle.std.proofs.lemmas.Bool.{ltb-false}
use Rattle.std.proofs.lemmas.List.Sums.{prefix_len-le-length}
use Rattle.octets.proofs.Lists.{true_not_false, eqb_eq}
use Rattle.attendant_console.specs.Name.{is_comma, part_or, name}

module _ (line digits : List ℕ) where
  ends_at : unwrap_or (position is_comma line) (length line) ≡ position_or_len is_comma line
  ends_at = go (ltb (position_or_len is_comma line) (length line)) refl
    where
      go : (b : Bool) → ltb (position_or_len is_comma line) (length line) ≡ b → unwrap_or (cond b (Some (position_or_len is_comma line)) None) (length line) ≡ position_or_len is_comma line
      go true e = refl
      go false e =
          let within : position_or_len is_comma line ≤ length line = prefix_len-le-length (λ (c : ℕ). not (is_comma c)) line in
          let past = ltb-false (position_or_len is_comma line) (length line) e in
          omega (arith, within, past)

  module _ {found : Option ℕ} {end : ℕ} (told : found ≡ position is_comma line) (at : end ≡ unwrap_or found (length line)) where
    part_is : take end line ≡ before_first is_comma line
    part_is = ap (λ (n : ℕ). take n line) (at ∙ ap (λ (o : Option ℕ). unwrap_or o (length line)) told ∙ ends_at)

    pub of_digits : eqb (length (take end line)) 0 ≡ true → digits ≡ name line digits
    unfolding name
    of_digits e = go (take end line) e ∙ ap (λ (p : List ℕ). part_or p digits) part_is
      where
        go : (p : List ℕ) → eqb (length p) 0 ≡ true → digits ≡ part_or p digits
        go [] e = refl
        go (c ∷ cs) e = absurd (let z = eqb_eq (length (c ∷ cs)) 0 e in omega arith)

    pub of_line : eqb (length (take end line)) 0 ≡ false → take end line ≡ name line digits
    unfolding name
    of_line e = go (take end line) e ∙ ap (λ (p : List ℕ). part_or p digits) part_is
      where
        go : (p : List ℕ) → eqb (length p) 0 ≡ false → p ≡ part_or p digits
        go [] e = absurd (true_not_false refl e)
        go (c ∷ cs) e = refl
