-- Soundness of rows by the tests of one row and of two rows.
use Rattle.std.specs.Prelude.{None, Option, Some}
use Prim.Native.Nat.{ℕ}
use mathlib.Core.Path.{◌≡◌, refl, sym, ap, ◌∙◌}
use mathlib.Core.Bool.{Bool, true, false, ◌&&◌, not}
use mathlib.Core.List.{List, Memᴰ}
use lib.Dec.{eqb, leb}
use lib.ListN.{length}
use Rattle.octets.specs.Lists.{any, all, filter, distinct}
use Rattle.octets.specs.Tests.{has, none_or}
use Rattle.octets.proofs.Lists.{any_of, filter_ext, same_tests}
use Rattle.octets.proofs.Loops.{all_filter_map, any_filter_map, distinct_filter_map, all_and, any_and, all_same, distinct_or, length_filter_map, length_filter_filter_map}
use Rattle.board.specs.declared.Standing.{Standing}
use Rattle.board.specs.declared.Standing.TheVariants.{Empty, Served, Joined}
use Rattle.board.specs.declared.Row.{Row}
use Rattle.board.specs.Entries.{Connection, WithUser, WithPartner, Entry, entry_of, row_entry, taken, occupied, linked, is_joined, link_ids}
use Rattle.board.specs.LinkIds.{most_link_ids}
use Rattle.board.specs.Soundness.{valid_row, valid_entry, same_legs, same_references, same_link_ids, answers_to, valid_partner, partnered, sound_entries, sound_rows}
use Rattle.board.specs.Code.RowTests.{fits, sharing, clashing, clash, partnered_by, paired, taken_row, joined_row, linked_row}
use Rattle.board.specs.Code.Tallies.{tally_of}

-- ---- one row

-- ---- all rows

pub fits_all : (rows : List Row) → all fits rows ≡ (all valid_row rows && all valid_entry (taken rows))
unfolding fits
fits_all rows = all_and valid_row (λ (r : Row). none_or valid_entry (row_entry r)) rows ∙ ap (λ (b : Bool). all valid_row rows && b) (sym (all_filter_map row_entry valid_entry rows))

pub clash_all : (rows : List Row) → distinct clash rows ≡ (distinct same_legs (taken rows) && (distinct same_references (taken rows) && distinct same_link_ids (taken rows)))
unfolding clash
clash_all rows =
    sym (distinct_filter_map row_entry clashing rows)
    ∙ distinct_or same_legs sharing (taken rows)
    ∙ ap (λ (b : Bool). distinct same_legs (taken rows) && b) (distinct_or same_references same_link_ids (taken rows))

-- what an entry asks of the entries, it asks of the rows
partner_any : (rows : List Row) (n : ℕ) (k : Connection) → any (λ (b : Row). partnered_by n k (row_entry b)) rows ≡ true → valid_partner (taken rows) n k ≡ true
partner_any rows n (WithUser c) t = refl
partner_any rows n (WithPartner p a) t = go (not (eqb n p)) (sym (any_and (not (eqb n p)) (λ (b : Row). has (answers_to n p a) (row_entry b)) rows) ∙ t)
  where
    go : (b : Bool) → (b && any (λ (b : Row). has (answers_to n p a) (row_entry b)) rows) ≡ true → (b && any (answers_to n p a) (taken rows)) ≡ true
    go b t = rw (any_filter_map row_entry (answers_to n p a) rows) t

any_partner : (rows : List Row) (r : Row) (n : ℕ) (k : Connection) → Memᴰ r rows → valid_partner (taken rows) n k ≡ true → any (λ (b : Row). partnered_by n k (row_entry b)) rows ≡ true
any_partner rows r n (WithUser c) m t = any_of (λ (b : Row). true) m refl
any_partner rows r n (WithPartner p a) m t =
    any_and (not (eqb n p)) (λ (b : Row). has (answers_to n p a) (row_entry b)) rows
    ∙ ap (λ (b : Bool). not (eqb n p) && b) (sym (any_filter_map row_entry (answers_to n p a) rows))
    ∙ t

one_paired : (rows : List Row) (r : Row) (o : Option Entry) → Memᴰ r rows →
    any (λ (b : Row). none_or (λ (e : Entry). partnered_by e.leg e.connection (row_entry b)) o) rows ≡ none_or (partnered (taken rows)) o
one_paired rows r None m = any_of (λ (b : Row). true) m refl
one_paired rows r (Some e) m = same_tests (λ t. partner_any rows e.leg e.connection t) (λ t. any_partner rows r e.leg e.connection m t)

pub paired_all : (rows : List Row) → all (λ (a : Row). any (paired a) rows) rows ≡ all (partnered (taken rows)) (taken rows)
unfolding paired
paired_all rows =
    all_same (λ (a : Row). any (paired a) rows) (λ (a : Row). none_or (partnered (taken rows)) (row_entry a)) rows (λ r m. one_paired rows r (row_entry r) m)
    ∙ sym (all_filter_map row_entry (partnered (taken rows)) rows)

-- ---- the whole

and_four : (a b c d e f g : Bool) → (a && (b && (c && (d && (e && (f && g)))))) ≡ (a && b && (c && (d && e) && (f && g)))
and_four true true true d e f g = and_three d e (f && g)
  where
    and_three : (d e h : Bool) → (d && (e && h)) ≡ (d && e && h)
    and_three true e h = refl
    and_three false e h = refl
and_four true true false d e f g = refl
and_four true false c d e f g = refl
and_four false b c d e f g = refl

pub sound_by_rows : (rows : List Row) →
    sound_rows rows
    ≡ (all fits rows && (distinct clash rows && (leb (link_ids (taken rows)) most_link_ids && all (λ (a : Row). any (paired a) rows) rows)))
unfolding sound_rows sound_entries
sound_by_rows rows = rw (fits_all rows, clash_all rows, paired_all rows) (and_four
    (all valid_row rows)
    (all valid_entry (taken rows))
    (distinct same_legs (taken rows))
    (distinct same_references (taken rows))
    (distinct same_link_ids (taken rows))
    (leb (link_ids (taken rows)) most_link_ids)
    (all (partnered (taken rows)) (taken rows)))

-- ---- counts

occupied_has : (leg : ℕ) (s : Standing) → has (λ (e : Entry). true) (entry_of leg s) ≡ occupied s
occupied_has leg Empty = refl
occupied_has leg (Served c) = refl
occupied_has leg (Joined p a) = refl

pub tally_all : (rows : List Row) → tally_of rows ≡ record { legs = length (filter taken_row rows); joined = length (filter joined_row rows); links = length (filter linked_row rows) }
unfolding tally_of
tally_all rows =
    let a = length_filter_map row_entry rows ∙ ap (λ (l : List Row). length l) (filter_ext (λ (r : Row). has (λ (e : Entry). true) (row_entry r)) taken_row rows (λ r. occupied_has r.leg r.standing)) in
    let b = length_filter_filter_map row_entry (λ (e : Entry). is_joined e.connection) rows in
    let k = length_filter_filter_map row_entry linked rows in
    rw (a, b, k)
