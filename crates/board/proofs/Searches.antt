-- The row that a search finds, against the definitions: the entry or the party that they look up is that of the row found, and the lowest empty
-- row is the one that Open stores to.
use Rattle.std.specs.Prelude.{None, Option, Some, option_map}
use Prim.Native.Nat.{ℕ, zero, suc, zero-le, suc-le-suc}
use native.Mathlib.Nat.{le_of_suc-le-suc, not-suc-le-zero}
use native.Mathlib.Omega.{arith}
use mathlib.Core.Path.{◌≡◌, refl, sym, ap, ◌∙◌}
use mathlib.Core.Bool.{Bool, true, false, ◌&&◌, ◌||◌, not}
use mathlib.Core.List.{List, [], ◌∷◌}
use lib.Dec.{eqb}
use lib.ListN.{get_or, set}
use Rattle.std.proofs.lemmas.Bool.{not-false}
use Rattle.octets.specs.declared.CallReference.{CallReference}
use Rattle.octets.specs.declared.LinkId.{LinkId}
use Rattle.octets.specs.Lists.{any, find, filter_map, place_from, or_else}
use Rattle.octets.proofs.Lists.{is_not, any_ext}
use Rattle.octets.proofs.Loops.{any_filter_map}
use Rattle.octets.proofs.Places.{Lowest, place_cons, place_lowest, place_none, place_ext, value_at, find_filter_map, filter_map_filter_map}
use Rattle.board.specs.declared.Standing.{Standing}
use Rattle.board.specs.declared.Standing.TheVariants.{Empty, Served, Joined}
use Rattle.board.specs.declared.Row.{Row}
use Rattle.board.specs.declared.finding.Key.{Key}
use Rattle.board.specs.declared.finding.Key.TheVariants as key
use Rattle.board.specs.Entries.{Entry, Party, entry_of, row_entry, taken, occupied, party_of, calls, has_leg, has_reference, has_link_id, row_party, has_party_reference, has_party_link_id}
use Rattle.board.specs.Lookup.{is_call_of}
use Rattle.board.specs.Code.Keys.{is_empty, matches_key, has_link_id_of}
use Rattle.board.specs.Changes.{enter, enter_at}
use Rattle.octets.specs.Tests.{has, bind_option}

-- ---- the answer of a search

-- the element at a place, if there is one
module _ {A : Type 0} (d : A) where
  abbrev pub element_at : List A → Option ℕ → Option A
  element_at l None = None
  element_at l (Some i) = Some (get_or l i d)

  element_later : (x : A) (l : List A) (o : Option ℕ) → element_at l o ≡ element_at (x ∷ l) (option_map suc o)
  element_later x l None = refl
  element_later x l (Some i) = refl

  -- what is found is the element at the lowest place
  pub find_at : (p : A → Bool) (l : List A) → find p l ≡ element_at l (place_from p 0 l)
  unfolding place_from
  find_at p [] = refl
  find_at p (x ∷ l) = go (p x) (find_at p l) ∙ sym (ap (element_at (x ∷ l)) (place_cons p x l))
    where
      go : (b : Bool) → find p l ≡ element_at l (place_from p 0 l) → or_else b x (find p l) ≡ element_at (x ∷ l) (or_else b 0 (option_map suc (place_from p 0 l)))
      go true h = refl
      go false h = h ∙ element_later x l (place_from p 0 l)

-- the row found by a key lies within the rows and has the key, and no earlier row has it
pub key_lowest : (k : Key) (rows : List Row) (d : Row) (i : ℕ) → place_from (matches_key k) 0 rows ≡ Some i → Lowest (matches_key k) d rows i
key_lowest k rows d i e = place_lowest (matches_key k) d rows i e

pub key_nowhere : (k : Key) (rows : List Row) → place_from (matches_key k) 0 rows ≡ None → any (matches_key k) rows ≡ false
key_nowhere k rows e = place_none (matches_key k) rows e

-- ---- the entry that the definitions look up is that of the row found

pub leg_test : (n : ℕ) (row : Row) → has (has_leg n) (row_entry row) ≡ matches_key (key.Leg n) row
leg_test n row = go row.standing
  where
    go : (s : Standing) → has (has_leg n) (entry_of row.leg s) ≡ (occupied s && eqb n row.leg)
    go Empty = refl
    go (Served c) = refl
    go (Joined p a) = refl

pub reference_test : (r : CallReference) (row : Row) → has (has_reference r.0) (row_entry row) ≡ matches_key (key.Reference r) row
reference_test r row = go row.standing
  where
    go : (s : Standing) → has (has_reference r.0) (entry_of row.leg s) ≡ is_call_of r.0 s
    go Empty = refl
    go (Served c) = refl
    go (Joined p a) = refl

pub link_id_test : (l : LinkId) (row : Row) → has (has_link_id l.0) (row_entry row) ≡ matches_key (key.LinkId l) row
link_id_test l row = go row.standing
  where
    go : (s : Standing) → has (has_link_id l.0) (entry_of row.leg s) ≡ has_link_id_of l.0 s
    go Empty = refl
    go (Served c) = refl
    go (Joined p a) = refl

entry_found_lem : (q : Entry → Bool) (p : Row → Bool) (rows : List Row) (d : Row) → ((row : Row) → has q (row_entry row) ≡ p row) →
    find q (taken rows) ≡ value_at row_entry d rows (place_from p 0 rows)
entry_found_lem q p rows d f = find_filter_map q row_entry d rows ∙ ap (value_at row_entry d rows) (place_ext (λ (row : Row). has q (row_entry row)) p 0 rows f)

pub entry_by_leg : (n : ℕ) (rows : List Row) (d : Row) → find (has_leg n) (taken rows) ≡ value_at row_entry d rows (place_from (matches_key (key.Leg n)) 0 rows)
entry_by_leg n rows d = entry_found_lem (has_leg n) (matches_key (key.Leg n)) rows d (leg_test n)

-- ---- some entry has a leg, a reference or a LinkId where some row has it

any_entry : (q : Entry → Bool) (p : Row → Bool) (rows : List Row) → ((row : Row) → has q (row_entry row) ≡ p row) → any q (taken rows) ≡ any p rows
any_entry q p rows f = any_filter_map row_entry q rows ∙ any_ext (λ (row : Row). has q (row_entry row)) p rows f

pub any_leg : (n : ℕ) (rows : List Row) → any (has_leg n) (taken rows) ≡ any (matches_key (key.Leg n)) rows
any_leg n rows = any_entry (has_leg n) (matches_key (key.Leg n)) rows (leg_test n)

pub any_reference : (r : CallReference) (rows : List Row) → any (has_reference r.0) (taken rows) ≡ any (matches_key (key.Reference r)) rows
any_reference r rows = any_entry (has_reference r.0) (matches_key (key.Reference r)) rows (reference_test r)

pub any_link_id : (l : LinkId) (rows : List Row) → any (has_link_id l.0) (taken rows) ≡ any (matches_key (key.LinkId l)) rows
any_link_id l rows = any_entry (has_link_id l.0) (matches_key (key.LinkId l)) rows (link_id_test l)

-- ---- the party that the definitions look up is that of the row found

pub calls_of_rows : (rows : List Row) → calls (taken rows) ≡ filter_map row_party rows
calls_of_rows rows = filter_map_filter_map (λ (e : Entry). party_of e.leg e.connection) row_entry rows

party_found_lem : (q : Party → Bool) (p : Row → Bool) (rows : List Row) (d : Row) → ((row : Row) → has q (row_party row) ≡ p row) →
    find q (calls (taken rows)) ≡ value_at row_party d rows (place_from p 0 rows)
party_found_lem q p rows d f =
    ap (find q) (calls_of_rows rows) ∙ find_filter_map q row_party d rows ∙ ap (value_at row_party d rows) (place_ext (λ (row : Row). has q (row_party row)) p 0 rows f)

party_reference_test : (r : CallReference) (row : Row) → has (has_party_reference r.0) (row_party row) ≡ matches_key (key.Reference r) row
party_reference_test r row = go row.standing
  where
    go : (s : Standing) → has (has_party_reference r.0) (bind_option (λ (e : Entry). party_of e.leg e.connection) (entry_of row.leg s)) ≡ is_call_of r.0 s
    go Empty = refl
    go (Served c) = refl
    go (Joined p a) = refl

party_link_id_test : (l : LinkId) (row : Row) → has (has_party_link_id l.0) (row_party row) ≡ matches_key (key.LinkId l) row
party_link_id_test l row = go row.standing
  where
    go : (s : Standing) → has (has_party_link_id l.0) (bind_option (λ (e : Entry). party_of e.leg e.connection) (entry_of row.leg s)) ≡ has_link_id_of l.0 s
    go Empty = refl
    go (Served c) = refl
    go (Joined p a) = refl

pub party_by_reference : (r : CallReference) (rows : List Row) (d : Row) →
    find (has_party_reference r.0) (calls (taken rows)) ≡ value_at row_party d rows (place_from (matches_key (key.Reference r)) 0 rows)
party_by_reference r rows d = party_found_lem (has_party_reference r.0) (matches_key (key.Reference r)) rows d (party_reference_test r)

pub party_by_link_id : (l : LinkId) (rows : List Row) (d : Row) →
    find (has_party_link_id l.0) (calls (taken rows)) ≡ value_at row_party d rows (place_from (matches_key (key.LinkId l)) 0 rows)
party_by_link_id l rows d = party_found_lem (has_party_link_id l.0) (matches_key (key.LinkId l)) rows d (party_link_id_test l)

-- ---- Open: the lowest empty row is stored to

pub enter_at_lem : (new : Row) (rows : List Row) (d : Row) (i : ℕ) → Lowest is_empty d rows i → enter new rows ≡ set rows i new
enter_at_lem new [] d i w = absurd (not-suc-le-zero w.within)
enter_at_lem new (x ∷ rows) d zero w = ap (λ (b : Bool). enter_at b new x rows (enter new rows)) (is_not {b = occupied x.standing} w.passes)
enter_at_lem new (x ∷ rows) d (suc i) w =
    ap (λ (b : Bool). enter_at b new x rows (enter new rows)) (not-false (occupied x.standing) (w.earlier zero (suc-le-suc zero-le)))
    ∙ ap (λ (r : List Row). x ∷ r)
    (enter_at_lem new rows d i (record { within = le_of_suc-le-suc w.within; passes = w.passes; earlier = λ j h. w.earlier (suc j) (suc-le-suc h) }))

pub enter_full : (new : Row) (rows : List Row) → any is_empty rows ≡ false → enter new rows ≡ rows
enter_full new [] e = refl
enter_full new (x ∷ rows) e = go (occupied x.standing) e (enter_full new rows)
  where
    go : (b : Bool) → (not b || any is_empty rows) ≡ false → (any is_empty rows ≡ false → enter new rows ≡ rows) → enter_at b new x rows (enter new rows) ≡ x ∷ rows
    go true q f = ap (λ (r : List Row). x ∷ r) (f q)
    go false q f = let z : ◌≡◌ {A = ℕ} 0 1 = cc in absurd (omega arith)
