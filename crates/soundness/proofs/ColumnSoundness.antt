-- Soundness of rows by the columns that they are read into.
use Rattle.std.specs.Prelude.{ℕ, None, Option, Some, length, eqb, cond}
use mathlib.Core.Path.{◌≡◌, refl, sym, ap, ◌∙◌}
use mathlib.Core.Bool.{Bool, true, false, ◌&&◌, not, and-false, and_assoc}
use mathlib.Core.List.{List}
use Rattle.octets.specs.declared.LinkId.{LinkId}
use Rattle.octets.specs.Lists.{any, all, distinct, filter_map}
use Rattle.octets.specs.Tests.{has, none_or, has_both, bit}
use Rattle.octets.proofs.Lists.{filter_ext, all_ext, any_ext}
use Rattle.octets.proofs.Loops.{distinct_filter_map, distinct_ext, length_filter_map, all_filter_map, any_filter_map}
use Rattle.octets.proofs.Places.{filter_map_filter_map}
use Rattle.board.specs.declared.Connection.{Connection}
use Rattle.board.specs.declared.Connection.TheVariants.{WithUser, WithPartner}
use Rattle.board.specs.declared.Row.{Row}
use Rattle.board.specs.declared.Entry.{Entry}
use Rattle.board.specs.Entries.{entry, taken, row_entry, linked, link_id_in, link_id_of, present, link_ids}
use Rattle.board.specs.Soundness.{valid_row, valid_entry, same_references, same_link_ids, answers_to, valid_partner, partnered, sound_entries, sound_rows}
use Rattle.board.specs.Code.RowTests.{fits}
use Rattle.board.proofs.Rows.{fits_all}
use Rattle.row_soundness.specs.declared.keys.JoinedLeg.{JoinedLeg}
use Rattle.row_soundness.specs.Code.RowKeys.{leg_in, reference_in, call_link_of, link_in, same_reference, same_link, joined_leg_of, joined_in, answers_joined}
use Rattle.row_soundness.proofs.KeyLaws.{both_references, both_links, bit_one}
use Rattle.soundness.specs.declared.Columns.{Columns}
use Rattle.soundness.specs.Code.Columns.{column, columns_of, gathered, all_answered, sound_columns}

module _ (es : List Entry) where
  -- ---- distinctness

  references_distinct : distinct same_references es ≡ distinct same_reference (filter_map reference_in es)
  references_distinct =
      distinct_ext same_references (λ (e f : Entry). has_both same_reference (reference_in e) (reference_in f)) es (λ e f. sym (both_references e.connection f.connection))
      ∙ sym (distinct_filter_map reference_in same_reference es)

  links_distinct : distinct same_link_ids es ≡ distinct same_link (filter_map link_in es)
  links_distinct =
      distinct_ext same_link_ids (λ (e f : Entry). has_both same_link (link_in e) (link_in f)) es (λ e f. sym (both_links e.connection f.connection))
      ∙ sym (distinct_filter_map link_in same_link es)

  -- ---- the number of LinkIds

  links_counted : link_ids es ≡ length (filter_map link_in es)
  links_counted =
      ap (λ (l : List Entry). length l) (filter_ext linked (λ (e : Entry). has (λ (l : LinkId). true) (link_in e)) es (λ e. has_link e.connection))
      ∙ sym (length_filter_map link_in es)
    where
      some_link : (o : Option LinkId) → present (link_id_in o) ≡ has (λ (l : LinkId). true) o
      some_link None = refl
      some_link (Some l) = refl

      has_link : (k : Connection) → present (link_id_of k) ≡ has (λ (l : LinkId). true) (call_link_of k)
      has_link (WithUser c) = some_link c.link
      has_link (WithPartner p a) = refl

  -- ---- partners: only joined rows have one, and are one

  partners_joined : all (partnered es) es ≡ all_answered (filter_map joined_in es)
  partners_joined =
      all_ext (partnered es) (λ (e : Entry). none_or right (joined_in e)) es (λ e. one e.leg e.connection)
      ∙ sym (all_filter_map joined_in right es)
    where
      right : JoinedLeg → Bool
      right j = not (eqb j.leg j.partner) && any (answers_joined j) (filter_map joined_in es)

      answers_at : (n p : ℕ) (a : Bool) (m : ℕ) (k : Connection) →
          answers_to n p a (entry m k) ≡ has (answers_joined (record { leg = n; partner = p; alerting = bit a })) (joined_leg_of m k)
      answers_at n p a m (WithUser c) = and-false (eqb p m)
      answers_at n p a m (WithPartner q b) = rw (bit_one a, bit_one b)

      one : (n : ℕ) (k : Connection) → valid_partner es n k ≡ none_or right (joined_leg_of n k)
      one n (WithUser c) = refl
      one n (WithPartner p a) =
          let j : JoinedLeg = record { leg = n; partner = p; alerting = bit a } in
          ap (λ (b : Bool). not (eqb n p) && b)
          (any_ext (answers_to n p a) (λ (f : Entry). has (answers_joined j) (joined_in f)) es (λ f. answers_at n p a f.leg f.connection)
          ∙ sym (any_filter_map joined_in (answers_joined j) es))

-- ---- the whole

column_taken : {A : Type 0} (f : Entry → Option A) (rows : List Row) → filter_map f (taken rows) ≡ column f rows
column_taken f rows = filter_map_filter_map f row_entry rows

sound_by_columns : (rows : List Row) → sound_rows rows ≡ (all fits rows && sound_columns (columns_of rows))
unfolding sound_rows sound_entries
sound_by_columns rows =
    rw (
      fits_all rows,
      ← column_taken leg_in rows,
      ← column_taken reference_in rows,
      ← column_taken link_in rows,
      ← column_taken joined_in rows,
      distinct_filter_map leg_in eqb (taken rows),
      ← references_distinct (taken rows),
      ← links_distinct (taken rows),
      ← links_counted (taken rows),
      ← partners_joined (taken rows),
    )
    (sym (and_assoc (all valid_row rows) (all valid_entry (taken rows)) _))

-- ---- the rows, as they are gathered

abbrev sound_if_any : Option Columns → Bool
sound_if_any None = false
sound_if_any (Some c) = sound_columns c

sound_by_gathering : (rows : List Row) → sound_if_any (gathered rows) ≡ sound_rows rows
sound_by_gathering rows = go (all fits rows) ∙ sym (sound_by_columns rows)
  where
    go : (b : Bool) → sound_if_any (cond b (Some (columns_of rows)) None) ≡ (b && sound_columns (columns_of rows))
    go true = refl
    go false = refl

pub some_gathered : (rows : List Row) (c : Columns) → gathered rows ≡ Some c → sound_columns c ≡ sound_rows rows
some_gathered rows c e = sym (ap sound_if_any e) ∙ sound_by_gathering rows

pub none_gathered : (rows : List Row) → gathered rows ≡ None → false ≡ sound_rows rows
none_gathered rows e = sym (ap sound_if_any e) ∙ sound_by_gathering rows
