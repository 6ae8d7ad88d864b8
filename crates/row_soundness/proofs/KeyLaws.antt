-- Two rows compared by what their entries are compared by.
use Rattle.std.specs.Prelude.{ℕ, None, Option, Some, Bool, true, false, ◌&&◌, ◌||◌, not, eqb, ℤ}
use Rattle.std.specs.Ordering.{int_eq}
use Rattle.std.proofs.lemmas.Bool.Decides.{Decides-int_eq}
use mathlib.Core.Path.{◌≡◌, refl, sym, ap, ap₂, ◌∙◌}
use mathlib.Core.Bool.{and-false, or_assoc}
use borrow.Author.Tests.{ne_eqb}
use Rattle.octets.specs.declared.LinkId.{LinkId}
use Rattle.octets.specs.Numbers.{same_integer}
use Rattle.octets.specs.Tests.{none_or, has, has_both, bit}
use Rattle.octets.proofs.Lists.{same_tests}
use Rattle.octets.proofs.SameInteger.{same_integer_eq, same_integer_self}
use Rattle.board.specs.declared.Standing.{Standing}
use Rattle.board.specs.declared.Standing.TheVariants.{Empty, Served, Joined}
use Rattle.board.specs.declared.Connection.{Connection}
use Rattle.board.specs.declared.Connection.TheVariants.{WithUser, WithPartner}
use Rattle.board.specs.declared.Entry.{Entry}
use Rattle.board.specs.declared.Row.{Row}
use Rattle.board.specs.Entries.{entry_of, row_entry, reference_of, link_id_in, link_id_of}
use Rattle.board.specs.Soundness.{same_numbers, same_link_ids_in}
use Rattle.board.specs.Code.RowTests.{clashing, clash, partnered_by, paired}
use Rattle.octets.specs.Tests.{bind_option}
use Rattle.row_soundness.specs.declared.keys.JoinedLeg.{JoinedLeg}
use Rattle.row_soundness.specs.Code.RowKeys.{leg_in, call_reference_of, reference_in, call_link_of, link_in, same_reference, same_link, joined_in, in_row, answers_joined}

-- ---- what is there in both, and the same

pub both_references : (j k : Connection) → has_both same_reference (call_reference_of j) (call_reference_of k) ≡ same_numbers (reference_of j) (reference_of k)
both_references (WithUser c) (WithUser d) = refl
both_references (WithUser c) (WithPartner p a) = refl
both_references (WithPartner p a) k = refl

int_eq_same : (y z : ℤ) → int_eq y z ≡ same_integer y z
int_eq_same y z =
    same_tests (λ t. ap (same_integer y) (sym ((Decides-int_eq y z).0 t)) ∙ same_integer_self y) (λ t. (Decides-int_eq y z).1 (same_integer_eq y z t))

both_link_ids : (o p : Option LinkId) → has_both same_link o p ≡ same_link_ids_in (link_id_in o) (link_id_in p)
both_link_ids None p = refl
both_link_ids (Some k) None = refl
both_link_ids (Some k) (Some l) = int_eq_same k.0 l.0

pub both_links : (j k : Connection) → has_both same_link (call_link_of j) (call_link_of k) ≡ same_link_ids_in (link_id_of j) (link_id_of k)
both_links (WithUser c) (WithUser d) = both_link_ids c.link d.link
both_links (WithUser c) (WithPartner p a) = both_link_ids c.link None
both_links (WithPartner p a) k = refl

-- ---- two rows that clash

abbrev same_in : {A : Type 0} → (A → A → Bool) → (Entry → Option A) → Option Entry → Option Entry → Bool
same_in t f o p = has_both t (bind_option f o) (bind_option f p)

none_right : {A : Type 0} (t : A → A → Bool) (o : Option A) → has_both t o None ≡ false
none_right t None = refl
none_right t (Some x) = refl

clash_of : (o p : Option Entry) → (same_in eqb leg_in o p || same_in same_reference reference_in o p || same_in same_link link_in o p) ≡ has_both clashing o p
clash_of None p = refl
clash_of (Some e) None = rw (none_right same_reference (reference_in e), none_right same_link (link_in e))
clash_of (Some e) (Some f) =
    or_assoc (eqb e.leg f.leg) _ _
    ∙ ap₂ (λ (b c : Bool). eqb e.leg f.leg || (b || c)) (both_references e.connection f.connection) (both_links e.connection f.connection)

pub clash_by_keys : (a b : Row) →
    (has_both eqb (in_row leg_in a) (in_row leg_in b) || has_both same_reference (in_row reference_in a) (in_row reference_in b) || has_both same_link (in_row link_in a) (in_row link_in b)) ≡ clash a b
unfolding clash
clash_by_keys a b = clash_of (row_entry a) (row_entry b)

-- ---- partners

pub bit_one : (b : Bool) → eqb (bit b) 1 ≡ b
bit_one true = refl
bit_one false = refl

-- a joined leg that is not its own partner and is answered by o
abbrev pub joined_pair : Option JoinedLeg → JoinedLeg → Bool
joined_pair o j = not (eqb j.leg j.partner) && has (answers_joined j) o

paired_at : (m n : ℕ) (s t : Standing) →
    none_or (λ (e : Entry). partnered_by e.leg e.connection (entry_of n t)) (entry_of m s)
    ≡ none_or (joined_pair (bind_option joined_in (entry_of n t))) (bind_option joined_in (entry_of m s))
paired_at m n Empty t = refl
paired_at m n (Served c) t = refl
paired_at m n (Joined p a) Empty = refl
paired_at m n (Joined p a) (Served d) = rw (and-false (eqb p n))
paired_at m n (Joined p a) (Joined q b) = rw (bit_one a, bit_one b)

pub paired_by_legs : (a b : Row) → paired a b ≡ none_or (joined_pair (in_row joined_in b)) (in_row joined_in a)
unfolding paired
paired_by_legs a b = paired_at a.leg b.leg a.standing b.standing

-- of two joined legs
pub paired_joined : (a b : Row) {j k : JoinedLeg} → in_row joined_in a ≡ Some j → in_row joined_in b ≡ Some k → (j.leg ≡ j.partner → ⊥) → answers_joined j k ≡ paired a b
paired_joined a b {j} d e h = rw (paired_by_legs a b, d, e, ne_eqb j.leg j.partner h)
