-- Lines while the rows are looked through: what is found of a line is what the rows have of its leg.
use Rattle.std.specs.Prelude.{None, Option, Some, option_map}
use Prim.Native.Nat.{ℕ, ◌+◌, ◌<◌, ◌≤◌}
use mathlib.Core.Path.{◌≡◌, refl, ap, sym, ◌∙◌}
use mathlib.Core.Bool.{Bool, true, false, cond}
use mathlib.Core.List.{List, [], ◌∷◌, map}
use lib.Dec.{eqb}
use lib.ListN.{drop, get_or, length, length-map}
use Rattle.octets.specs.Lists.{find, or_else, cons_opt}
use Rattle.octets.specs.Tests.{bind_option}
use Rattle.octets.proofs.Lists.{eqb_sym}
use Rattle.octets.proofs.Loops.{step_at, past_end}
use Rattle.board.specs.declared.Row.{Row}
use Rattle.board.specs.declared.Entry.{Entry}
use Rattle.board.specs.Entries.{row_entry, taken, has_leg}
use Rattle.attendant_console.specs.declared.ShownLeg.{ShownLeg}
use Rattle.attendant_console.specs.declared.Sought.{Sought}
use Rattle.attendant_console.specs.Screen.{Line, shown_entry, shown_among}
use Rattle.attendant_console.specs.Code.Redrawing.{sought_first, sought_by, sought_in, found_in, redrawn_lines}

-- what has been found stays
found_stays : (rows : List Row) (leg : Option ℕ) (s : ShownLeg) → found_in rows (record { leg = leg; found = Some s }) ≡ Some s
unfolding found_in
found_stays [] leg s = refl
found_stays (r ∷ rs) leg s = go (option_map shown_entry (row_entry r)) (found_stays rs leg s)
  where
    go : (o : Option ShownLeg) → found_in rs (record { leg = leg; found = Some s }) ≡ Some s → found_in rs (sought_in o (record { leg = leg; found = Some s })) ≡ Some s
    go None h = h
    go (Some x) h = h

-- a line that shows no leg stays empty
none_found : (rows : List Row) → found_in rows (record { leg = None; found = None }) ≡ None
unfolding found_in
none_found [] = refl
none_found (r ∷ rs) = go (option_map shown_entry (row_entry r)) (none_found rs)
  where
    go : (o : Option ShownLeg) → found_in rs (record { leg = None; found = None }) ≡ None → found_in rs (sought_in o (record { leg = None; found = None })) ≡ None
    go None h = h
    go (Some x) h = h

leg_found : (rows : List Row) (n : ℕ) → found_in rows (record { leg = Some n; found = None }) ≡ shown_among rows n
unfolding found_in
leg_found [] n = refl
leg_found (r ∷ rs) n = go (row_entry r) (leg_found rs n)
  where
    one : (b : Bool) (e : Entry) → found_in rs (record { leg = Some n; found = None }) ≡ shown_among rs n →
        found_in rs (cond b (record { leg = Some n; found = Some (shown_entry e) }) (record { leg = Some n; found = None })) ≡ option_map shown_entry (or_else b e (find (has_leg n) (taken rs)))
    one true e h = found_stays rs (Some n) (shown_entry e)
    one false e h = h

    go : (o : Option Entry) → found_in rs (record { leg = Some n; found = None }) ≡ shown_among rs n →
        found_in rs (sought_in (option_map shown_entry o) (record { leg = Some n; found = None })) ≡ option_map shown_entry (find (has_leg n) (cons_opt o (taken rs)))
    go None h = h
    go (Some e) h = ap (λ (b : Bool). found_in rs (cond b (record { leg = Some n; found = Some (shown_entry e) }) (record { leg = Some n; found = None }))) (eqb_sym e.leg n) ∙ one (eqb n e.leg) e h

line_found : (rows : List Row) (l : Line) → found_in rows (sought_first l) ≡ bind_option (λ (s : ShownLeg). shown_among rows s.leg) l
line_found rows None = none_found rows
line_found rows (Some s) = leg_found rows s.leg

-- ---- the loop over the rows

pub begun : (rows : List Row) (ls : List Line) → map (found_in rows) (map sought_first ls) ≡ redrawn_lines rows ls
unfolding redrawn_lines
begun rows [] = refl
begun rows (l ∷ ls) = ap {B = List Line} (λ (x : Line). x ∷ map (found_in rows) (map sought_first ls)) (line_found rows l) ∙ ap (λ (xs : List Line). bind_option (λ (s : ShownLeg). shown_among rows s.leg) l ∷ xs) (begun rows ls)

later : (r : Row) (rs : List Row) (o : Option ShownLeg) (ts : List Sought) → option_map shown_entry (row_entry r) ≡ o → map (found_in rs) (map (sought_in o) ts) ≡ map (found_in (r ∷ rs)) ts
unfolding found_in
later r rs o [] e = refl
later r rs o (t ∷ ts) e =
    ap (λ (x : Line). x ∷ map (found_in rs) (map (sought_in o) ts)) (ap (λ (p : Option ShownLeg). found_in rs (sought_in p t)) (sym e))
    ∙ ap (λ (xs : List Line). found_in rs (sought_in (option_map shown_entry (row_entry r)) t) ∷ xs) (later r rs o ts e)

-- a row without a leg
passed_by : (r : Row) (rs : List Row) (ts : List Sought) → option_map shown_entry (row_entry r) ≡ None → map (found_in rs) ts ≡ map (found_in (r ∷ rs)) ts
unfolding found_in
passed_by r rs [] e = refl
passed_by r rs (t ∷ ts) e =
    ap (λ (x : Line). x ∷ map (found_in rs) ts) (ap (λ (p : Option ShownLeg). found_in rs (sought_in p t)) (sym e))
    ∙ ap (λ (xs : List Line). found_in rs (sought_in (option_map shown_entry (row_entry r)) t) ∷ xs) (passed_by r rs ts e)

module _ (rows : List Row) (i : ℕ) (d : Row) (ts : List Sought) (within : i < length rows) {o : Option ShownLeg} (told : o ≡ option_map shown_entry (row_entry (get_or rows i d))) where
  abbrev row : Row
  row = get_or rows i d

  split : drop i rows ≡ row ∷ drop (i + 1) rows
  split = (step_at rows i d within).split

  pub row_seen : {s : ShownLeg} → o ≡ Some s → map (found_in (drop (i + 1) rows)) (map (sought_by s) ts) ≡ map (found_in (drop i rows)) ts
  row_seen {s} e = rw split (later row (drop (i + 1) rows) (Some s) ts (sym told ∙ e))

  pub row_empty : o ≡ None → map (found_in (drop (i + 1) rows)) ts ≡ map (found_in (drop i rows)) ts
  row_empty e = rw split (passed_by row (drop (i + 1) rows) ts (sym told ∙ e))

-- behind the last row
pub all_seen : (rows : List Row) (i : ℕ) (ts : List Sought) → length rows ≤ i → map (λ (t : Sought). t.found) ts ≡ map (found_in (drop i rows)) ts
unfolding found_in
all_seen rows i ts h = rw (past_end rows i h).rest (over ts)
  where
    over : (ts : List Sought) → map (λ (t : Sought). t.found) ts ≡ map (found_in []) ts
    over [] = refl
    over (t ∷ ts) = ap (λ (xs : List Line). t.found ∷ xs) (over ts)

pub as_many : (rows rest : List Row) (ts : List Sought) (ls : List Line) → map (found_in rest) ts ≡ redrawn_lines rows ls → length ts ≡ length ls
unfolding redrawn_lines
as_many rows rest ts ls e = sym (length-map ts (found_in rest)) ∙ ap length e ∙ length-map ls _
