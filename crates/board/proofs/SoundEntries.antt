-- What soundness says of entries, and that it does not turn on their order.
use Rattle.std.specs.Prelude.{None, Option, Some}
use Prim.Native.Nat.{◌≤◌, ℕ}
use mathlib.Core.Path.{◌∙◌, ◌≡◌, sym, refl, subst, ap}
use mathlib.Core.Bool.{◌&&◌, true, not, Bool}
use mathlib.Core.List.{List, Memᴰ}
use lib.Dec.{leb, eqb}
use lib.ListN.{length}
use lib.IntN.{ℤ}
use Rattle.board.specs.Entries.{Entry, link_ids, has_leg, is_number, is_link_id, has_reference, reference_of, has_link_id, link_id_of, linked, Connection, WithUser, WithPartner}
use Rattle.board.specs.LinkIds.{most_link_ids}
use Rattle.board.specs.Soundness.{valid_entry, same_legs, same_references, same_link_ids, partnered, sound_entries, same_numbers, same_link_ids_in, valid_partner, answers_to}
use Rattle.octets.proofs.Lists.{right, left, both, eqb_sym, distinct_one, eqb_of, eqb_eq, true_not_false, small_mem, mem_filter, Perm, all_perm, distinct_perm, length_perm, filter_perm, all_ext, any_perm}
use Rattle.octets.proofs.SameInteger.{same_integer_sym, same_integer_eq, same_integer_self}
use Rattle.octets.specs.Lists.{all, distinct, filter}
use Rattle.octets.specs.Numbers.{same_integer}

-- ---- what soundness says

pub record Sound (es : List Entry) : Type 0 where
  pub rights : all valid_entry es ≡ true
  pub legs : distinct same_legs es ≡ true
  pub refs : distinct same_references es ≡ true
  pub lids : distinct same_link_ids es ≡ true
  pub few : leb (link_ids es) most_link_ids ≡ true
  pub mates : all (partnered es) es ≡ true

pub sound_of : (es : List Entry) → sound_entries es ≡ true → Sound es
unfolding sound_entries
sound_of es h =
    let r1 = right (all valid_entry es) _ h in
    let r2 = right (distinct same_legs es) _ r1 in
    let r3 = right (distinct same_references es) _ r2 in
    let r4 = right (distinct same_link_ids es) _ r3 in
    record {
      rights = left (all valid_entry es) _ h;
      legs = left (distinct same_legs es) _ r1;
      refs = left (distinct same_references es) _ r2;
      lids = left (distinct same_link_ids es) _ r3;
      few = left (leb (link_ids es) most_link_ids) _ r4;
      mates = right (leb (link_ids es) most_link_ids) _ r4;
    }

pub of_sound : {es : List Entry} → Sound es → sound_entries es ≡ true
unfolding sound_entries
of_sound h = both h.rights (both h.legs (both h.refs (both h.lids (both h.few h.mates))))

-- ---- the tests of equality

same_numbers_sym : (o u : Option ℕ) → same_numbers o u ≡ same_numbers u o
same_numbers_sym None None = refl
same_numbers_sym None (Some n) = refl
same_numbers_sym (Some m) None = refl
same_numbers_sym (Some m) (Some n) = eqb_sym m n

same_link_ids_in_sym : (o u : Option ℤ) → same_link_ids_in o u ≡ same_link_ids_in u o
same_link_ids_in_sym None None = refl
same_link_ids_in_sym None (Some n) = refl
same_link_ids_in_sym (Some m) None = refl
same_link_ids_in_sym (Some m) (Some n) = same_integer_sym m n

-- ---- one entry for a leg, a reference, a LinkId

pub legs_one : (n : ℕ) {es : List Entry} → Sound es → length (filter (has_leg n) es) ≤ 1
legs_one n {es} s = distinct_one same_legs (has_leg n) (λ e f a b. eqb_of e.leg f.leg (sym (eqb_eq n e.leg a) ∙ eqb_eq n f.leg b)) es s.legs

pub is_number_same : (r : ℕ) (o u : Option ℕ) → is_number r o ≡ true → is_number r u ≡ true → same_numbers o u ≡ true
is_number_same r None u a b = absurd (true_not_false a refl)
is_number_same r (Some m) None a b = absurd (true_not_false b refl)
is_number_same r (Some m) (Some n) a b = eqb_of m n (sym (eqb_eq r m a) ∙ eqb_eq r n b)

is_link_id_same : (z : ℤ) (o u : Option ℤ) → is_link_id z o ≡ true → is_link_id z u ≡ true → same_link_ids_in o u ≡ true
is_link_id_same z None u a b = absurd (true_not_false a refl)
is_link_id_same z (Some x) None a b = absurd (true_not_false b refl)
is_link_id_same z (Some x) (Some y) a b = subst (λ (w : ℤ). same_integer x w ≡ true) (sym (same_integer_eq z x a) ∙ same_integer_eq z y b) (same_integer_self x)

pub refs_one : (r : ℕ) {es : List Entry} → Sound es → length (filter (has_reference r) es) ≤ 1
refs_one r {es} s = distinct_one same_references (has_reference r) (λ e f a b. is_number_same r (reference_of e.connection) (reference_of f.connection) a b) es s.refs

pub lids_one : (z : ℤ) {es : List Entry} → Sound es → length (filter (has_link_id z) es) ≤ 1
lids_one z {es} s = distinct_one same_link_ids (has_link_id z) (λ e f a b. is_link_id_same z (link_id_of e.connection) (link_id_of f.connection) a b) es s.lids

-- two entries of one leg are one entry
pub one_leg : {es : List Entry} → Sound es → (n : ℕ) {e f : Entry} → Memᴰ e es → Memᴰ f es → has_leg n e ≡ true → has_leg n f ≡ true → e ≡ f
one_leg {es} s n a b p q = small_mem (filter (has_leg n) es) (legs_one n s) (mem_filter (has_leg n) a p) (mem_filter (has_leg n) b q)

-- ---- soundness does not turn on the order

pub sound_perm : {l m : List Entry} → Perm l m → Sound l → Sound m
sound_perm {l} {m} p s = record {
  rights = sym (all_perm valid_entry p) ∙ s.rights;
  legs = sym (distinct_perm same_legs (λ e f. eqb_sym e.leg f.leg) p) ∙ s.legs;
  refs = sym (distinct_perm same_references (λ e f. same_numbers_sym (reference_of e.connection) (reference_of f.connection)) p) ∙ s.refs;
  lids = sym (distinct_perm same_link_ids (λ e f. same_link_ids_in_sym (link_id_of e.connection) (link_id_of f.connection)) p) ∙ s.lids;
  few = ap (λ (n : ℕ). leb n most_link_ids) (sym (length_perm (filter_perm linked p))) ∙ s.few;
  mates = sym (all_perm (partnered l) p ∙ all_ext (partnered l) (partnered m) m (λ e. partner e.leg e.connection)) ∙ s.mates;
}
  where
    partner : (n : ℕ) (t : Connection) → valid_partner l n t ≡ valid_partner m n t
    partner n (WithUser c) = refl
    partner n (WithPartner q a) = ap (λ (b : Bool). not (eqb n q) && b) (any_perm (answers_to n q a) p)
