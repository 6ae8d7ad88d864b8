-- The rows after an event, read as entries, are the entries after it.
use Rattle.std.specs.Prelude.{None, Option, Some, option_map}
use Prim.Native.Nat.{◌≤◌, ℕ, zero-le, suc, suc-le-suc}
use native.Mathlib.Nat.{le_step}
use mathlib.Core.Path.{◌∙◌, ◌≡◌, ap, refl, ap₂, sym}
use mathlib.Core.Bool.{◌||◌, Bool, cond, true, false, not, or-false}
use mathlib.Core.List.{◌∷◌, map, List, []}
use lib.Dec.{eqb, leb, leb-suc-suc}
use lib.Arith.{lt→nleb}
use lib.ListN.{length, length-map}
use lib.IntN.{ℤ}
use Rattle.board.specs.declared.PartyNumber.{PartyNumber}
use Rattle.board.specs.Changes.{changed_call, joined, alerting_ended, emptied_if, changed_rows, row_after, enter, full, enter_at, with_link_id, with_state, with_auxiliary, map_standing}
use Rattle.board.specs.declared.Connection.TheVariants.{WithPartner, WithUser}
use Rattle.board.specs.declared.Entry.{Entry}
use Rattle.board.specs.Entries.{taken, row_entry, entry_of, occupied, is_number}
use Rattle.board.specs.Making.{empty_row}
use Rattle.board.specs.Soundness.{valid_number, valid_standing, valid_row}
use Rattle.board.specs.States.{delivered, valid_reference}
use Rattle.board.specs.declared.Call.{Call}
use Rattle.board.specs.declared.Change.{Change}
use Rattle.board.specs.declared.Options.{Options}
use Rattle.board.specs.declared.Row.{Row}
use Rattle.board.specs.declared.Standing.{Standing}
use Rattle.board.specs.declared.Standing.TheVariants.{Empty, Served, Joined}
use Rattle.rules.proofs.Decided.{decided, Decided, refuses, changes_nothing, opens_leg_lem, sets_state, sets_auxiliary, releases, assigns_link_id, transfers, ends_alerting}
use Rattle.rules.specs.Book.{map_connection, change_call, join_legs, end_alerting, stays, changed_entries, entries_after, moved_by, candidate_moves}
use Rattle.rules.specs.Checks.{BoardChange, Enter, Apply, Decision, decide, change_of, new_link_id_of}
use Rattle.events.specs.EventRecords.{Request, in_range}
use Rattle.rules.specs.Step.{entered_row, rows_after, candidate_by, candidate_after}
use Rattle.octets.proofs.Lists.{Perm, true_not_false, p_trans, p_skip, p_swap, p_of, is_not, is_true, right, p_refl, map_perm, filter_perm, all_map, all_ext, left, all_by, all_at, both}
use Rattle.octets.specs.Lists.{cons_opt, filter, all, cons_if, any}
use Rattle.octets.specs.declared.CallReference.{CallReference}
use Rattle.octets.specs.declared.LinkId.{LinkId}
use Rattle.board.specs.declared.Change.TheVariants as change

-- ---- rows read as entries

taken_map : (f : Row → Row) (g : Entry → Entry) → ((r : Row) → row_entry (f r) ≡ option_map g (row_entry r)) → (rows : List Row) → taken (map f rows) ≡ map g (taken rows)
taken_map f g h [] = refl
taken_map f g h (r ∷ rs) = ap₂ cons_opt (h r) (taken_map f g h rs) ∙ go (row_entry r)
  where
    go : (o : Option Entry) → cons_opt (option_map g o) (map g (taken rs)) ≡ map g (cons_opt o (taken rs))
    go None = refl
    go (Some e) = refl

taken_filter : (f : Row → Row) (p : Entry → Bool) → ((r : Row) (l : List Entry) → cons_opt (row_entry (f r)) (filter p l) ≡ filter p (cons_opt (row_entry r) l)) → (rows : List Row) → taken (map f rows) ≡ filter p (taken rows)
taken_filter f p h [] = refl
taken_filter f p h (r ∷ rs) = ap (cons_opt (row_entry (f r))) (taken_filter f p h rs) ∙ h r (taken rs)

call_shown : (r : CallReference) (f : Call → Call) (n : ℕ) (t : Standing) → entry_of n (changed_call r f n t) ≡ option_map (map_connection (change_call r.0 f)) (entry_of n t)
call_shown r f n Empty = refl
call_shown r f n (Served c) = refl
call_shown r f n (Joined p a) = refl

join_shown : (a b n : ℕ) (t : Standing) → entry_of n (joined a b n t) ≡ option_map (map_connection (join_legs a b)) (entry_of n t)
join_shown a b n Empty = refl
join_shown a b n (Served c) = go (eqb a n) (eqb b n)
  where
    go : (x y : Bool) → entry_of n (cond x (Joined b (delivered c)) (cond y (Joined a (delivered c)) (Served c))) ≡ Some (record { leg = n; connection = cond x (WithPartner b (delivered c)) (cond y (WithPartner a (delivered c)) (WithUser c)) })
    go true y = refl
    go false true = refl
    go false false = refl
join_shown a b n (Joined p x) = refl

stop_shown : (l n : ℕ) (t : Standing) → entry_of n (alerting_ended l n t) ≡ option_map (map_connection (end_alerting l)) (entry_of n t)
stop_shown l n Empty = refl
stop_shown l n (Served c) = refl
stop_shown l n (Joined p a) = refl

-- a row is emptied where its leg is the released one or its partner: its entry does not stay
emptied_shown : (l : ℕ) (o : Option ℕ) (r : Row) (b : Bool) → not (eqb r.leg l || is_number r.leg o) ≡ not b → (es : List Entry) →
    cons_opt (row_entry (emptied_if b r)) (filter (stays l o) es) ≡ filter (stays l o) (cons_opt (row_entry r) es)
emptied_shown l o r b h es = go b r.standing h
  where
    same : (x : Entry) (k c : Bool) → k ≡ c → cons_if c x (filter (stays l o) es) ≡ cons_if k x (filter (stays l o) es)
    same x k c u = ap (λ (d : Bool). cons_if d x (filter (stays l o) es)) (sym u)

    go : (b : Bool) (t : Standing) → not (eqb r.leg l || is_number r.leg o) ≡ not b →
        cons_opt (row_entry (emptied_if b (record { leg = r.leg; number = r.number; standing = t }))) (filter (stays l o) es)
        ≡ filter (stays l o) (cons_opt (entry_of r.leg t) es)
    go true Empty u = refl
    go true (Served c) u = same (record { leg = r.leg; connection = WithUser c }) _ false u
    go true (Joined p a) u = same (record { leg = r.leg; connection = WithPartner p a }) _ false u
    go false Empty u = refl
    go false (Served c) u = same (record { leg = r.leg; connection = WithUser c }) _ true u
    go false (Joined p a) u = same (record { leg = r.leg; connection = WithPartner p a }) _ true u

change_view : (c : Change) (rows : List Row) → taken (changed_rows c rows) ≡ changed_entries c (taken rows)
unfolding changed_rows row_after
change_view (change.SetState r s) rows = taken_map _ _ (λ x. call_shown r (with_state s) x.leg x.standing) rows
change_view (change.SetAuxiliary r a) rows = taken_map _ _ (λ x. call_shown r (with_auxiliary a) x.leg x.standing) rows
change_view (change.SetLinkId r l) rows = taken_map _ _ (λ x. call_shown r (with_link_id l) x.leg x.standing) rows
change_view (change.Join a b) rows = taken_map _ _ (λ x. join_shown a b x.leg x.standing) rows
change_view (change.EndAlerting l) rows = taken_map _ _ (λ x. stop_shown l x.leg x.standing) rows
change_view (change.Release l) rows =
    taken_filter (row_after (change.Release l)) (stays l None) (λ r es. emptied_shown l None r (eqb r.leg l) (ap not (or-false (eqb r.leg l))) es) rows
change_view (change.ReleasePair l p) rows =
    taken_filter (row_after (change.ReleasePair l p)) (stays l (Some p)) (λ r es. emptied_shown l (Some p) r (eqb r.leg l || eqb r.leg p) refl es) rows

enter_shown : (new : Row) (c : Call) (rows : List Row) → new.standing ≡ Served c → full rows ≡ false → Perm (taken (enter new rows)) (record { leg = new.leg; connection = WithUser c } ∷ taken rows)
enter_shown new c [] h k = absurd (true_not_false refl k)
enter_shown new c (r ∷ rs) h k = go r.standing k (enter_shown new c rs h)
  where
    mine : Entry
    mine = record { leg = new.leg; connection = WithUser c }

    later : (e : Entry) → Perm (taken (enter new rs)) (mine ∷ taken rs) → Perm (e ∷ taken (enter new rs)) (mine ∷ (e ∷ taken rs))
    later e p = p_trans (p_skip p) p_swap

    go : (t : Standing) → not (not (occupied t) || any (λ (r : Row). not (occupied r.standing)) rs) ≡ false → (full rs ≡ false → Perm (taken (enter new rs)) (mine ∷ taken rs)) →
        Perm (taken (enter_at (occupied t) new (record { leg = r.leg; number = r.number; standing = t }) rs (enter new rs))) (mine ∷ cons_opt (entry_of r.leg t) (taken rs))
    go Empty k f = p_of (ap (λ (o : Option Entry). cons_opt o (taken rs)) (ap (entry_of new.leg) h))
    go (Served d) k f = later (record { leg = r.leg; connection = WithUser d }) (f k)
    go (Joined p a) k f = later (record { leg = r.leg; connection = WithPartner p a }) (f k)

-- ---- no row is empty where as many are taken as there are

taken_le : (rows : List Row) → length (taken rows) ≤ length rows
taken_le [] = zero-le
taken_le (r ∷ rs) = go (row_entry r) (taken_le rs)
  where
    go : (o : Option Entry) → length (taken rs) ≤ length rs → length (cons_opt o (taken rs)) ≤ suc (length rs)
    go None h = le_step h
    go (Some e) h = suc-le-suc h

pub full_is : (rows : List Row) → full rows ≡ leb (length rows) (length (taken rows))
full_is [] = refl
full_is (r ∷ rs) = go r.standing (full_is rs)
  where
    some_empty : leb (suc (length rs)) (length (taken rs)) ≡ false
    some_empty = is_not (is_true _ (lt→nleb (suc (length rs)) (length (taken rs)) (suc-le-suc (taken_le rs))))

    go : (t : Standing) → full rs ≡ leb (length rs) (length (taken rs)) →
        not (not (occupied t) || any (λ (r : Row). not (occupied r.standing)) rs) ≡ leb (suc (length rs)) (length (cons_opt (entry_of r.leg t) (taken rs)))
    go Empty h = sym some_empty
    go (Served c) h = h ∙ sym (leb-suc-suc (length rs) (length (taken rs)))
    go (Joined p a) h = h ∙ sym (leb-suc-suc (length rs) (length (taken rs)))

-- ---- what is entered is in range, and there is room for it

abbrev pub Fine : Bool → Option BoardChange → Type 0
Fine w None = Unit {0}
Fine w (Some (Enter p n)) = (w ≡ false) × (valid_number n ≡ true)
Fine w (Some (Apply c)) = Unit {0}

fine_by : {opt : Options} {z : ℤ} {w : Bool} {es : List Entry} {q : Request} {d : Decision} → in_range q ≡ true → Decided opt z w es q d → Fine w (change_of d)
fine_by h (refuses c) = tt
fine_by h (changes_nothing f g k) = tt
fine_by h (opens_leg_lem {r = r} e f g) = (g, right (valid_reference r) _ h)
fine_by h (sets_state e k) = tt
fine_by h (sets_auxiliary e k) = tt
fine_by h (releases m k) = tt
fine_by h (assigns_link_id i m e k) = tt
fine_by h (transfers i m n k) = tt
fine_by h ends_alerting = tt

pub fine : (opt : Options) (z : ℤ) (w : Bool) (es : List Entry) (q : Request) → in_range q ≡ true → Fine w (change_of (decide opt z w es q))
fine opt z w es q h = fine_by h (decided opt z w es q)

-- ---- the rows after a change

pub view : (c : Option BoardChange) (rows : List Row) → Fine (full rows) c → Perm (taken (rows_after c rows)) (entries_after c (taken rows))
unfolding rows_after entries_after
view None rows h = p_refl (taken rows)
view (Some (Enter p n)) rows h = enter_shown (entered_row p n) p.call rows refl h.0
view (Some (Apply c)) rows h = p_of (change_view c rows)

change_perm : (c : Change) {l m : List Entry} → Perm l m → Perm (changed_entries c l) (changed_entries c m)
change_perm (change.SetState r s) h = map_perm (map_connection (change_call r.0 (with_state s))) h
change_perm (change.SetAuxiliary r a) h = map_perm (map_connection (change_call r.0 (with_auxiliary a))) h
change_perm (change.SetLinkId r z) h = map_perm (map_connection (change_call r.0 (with_link_id z))) h
change_perm (change.Join a b) h = map_perm (map_connection (join_legs a b)) h
change_perm (change.EndAlerting l) h = map_perm (map_connection (end_alerting l)) h
change_perm (change.Release l) h = filter_perm (stays l None) h
change_perm (change.ReleasePair l p) h = filter_perm (stays l (Some p)) h

pub after_perm : (c : Option BoardChange) {l m : List Entry} → Perm l m → Perm (entries_after c l) (entries_after c m)
unfolding entries_after
after_perm None h = h
after_perm (Some (Enter p n)) h = p_skip h
after_perm (Some (Apply c)) h = change_perm c h

pub candidate_same : (c : Option BoardChange) (z : LinkId) → (candidate_after c z).0 ≡ candidate_moves c z.0
unfolding candidate_after candidate_moves
candidate_same c z = go (new_link_id_of c)
  where
    go : (o : Option LinkId) → (candidate_by o z).0 ≡ moved_by o z.0
    go None = refl
    go (Some l) = refl

-- ---- 64 rows stay 64 rows

enter_length : (new : Row) (rows : List Row) → length (enter new rows) ≡ length rows
enter_length new [] = refl
enter_length new (r ∷ rs) = go (occupied r.standing) (enter_length new rs)
  where
    go : (b : Bool) → length (enter new rs) ≡ length rs → length (enter_at b new r rs (enter new rs)) ≡ suc (length rs)
    go true h = ap suc h
    go false h = refl

pub rows_length : (c : Option BoardChange) (rows : List Row) → length (rows_after c rows) ≡ length rows
unfolding rows_after changed_rows
rows_length None rows = refl
rows_length (Some (Enter p n)) rows = enter_length _ rows
rows_length (Some (Apply c)) rows = length-map rows _

-- ---- the rows' own fields stay right

restand_right : (f : ℕ → Standing → Standing) → ((l : ℕ) (n : PartyNumber) (t : Standing) → valid_standing l n (f l t) ≡ valid_standing l n t) → (rows : List Row) →
    all valid_row rows ≡ true → all valid_row (map (map_standing f) rows) ≡ true
unfolding valid_row
restand_right f h rows k = all_map valid_row (map_standing f) rows ∙ all_ext (λ (r : Row). valid_row (map_standing f r)) valid_row rows (λ r. h r.leg r.number r.standing) ∙ k

call_right : (r : CallReference) (f : Call → Call) (l : ℕ) (n : PartyNumber) (t : Standing) → valid_standing l n (changed_call r f l t) ≡ valid_standing l n t
call_right r f l n Empty = refl
call_right r f l n (Served c) = refl
call_right r f l n (Joined q a) = refl

join_right : (a b l : ℕ) (n : PartyNumber) (t : Standing) → valid_standing l n (joined a b l t) ≡ valid_standing l n t
join_right a b l n Empty = refl
join_right a b l n (Served c) = go (eqb a l) (eqb b l)
  where
    go : (x y : Bool) → valid_standing l n (cond x (Joined b (delivered c)) (cond y (Joined a (delivered c)) (Served c))) ≡ valid_number n
    go true y = refl
    go false true = refl
    go false false = refl
join_right a b l n (Joined q x) = refl

stop_right : (m l : ℕ) (n : PartyNumber) (t : Standing) → valid_standing l n (alerting_ended m l t) ≡ valid_standing l n t
stop_right m l n Empty = refl
stop_right m l n (Served c) = refl
stop_right m l n (Joined q a) = refl

empty_right : valid_row empty_row ≡ true
unfolding valid_row
empty_right = refl

-- a row that is emptied or left stays right
emptied_right : (g : Row → Bool) (rows : List Row) → all valid_row rows ≡ true → all valid_row (map (λ (r : Row). emptied_if (g r) r) rows) ≡ true
emptied_right g rows k = all_map valid_row (λ (r : Row). emptied_if (g r) r) rows ∙ all_by (λ (r : Row). valid_row (emptied_if (g r) r)) rows (λ r m. go r (g r) (all_at valid_row m k))
  where
    go : (r : Row) (b : Bool) → valid_row r ≡ true → valid_row (emptied_if b r) ≡ true
    go r true h = empty_right
    go r false h = h

enter_right : (new : Row) (rows : List Row) → valid_row new ≡ true → all valid_row rows ≡ true → all valid_row (enter new rows) ≡ true
enter_right new [] h k = refl
enter_right new (r ∷ rs) h k = go (occupied r.standing) (enter_right new rs h (right (valid_row r) _ k))
  where
    go : (b : Bool) → all valid_row (enter new rs) ≡ true → all valid_row (enter_at b new r rs (enter new rs)) ≡ true
    go true w = both (left (valid_row r) _ k) w
    go false w = both h (right (valid_row r) _ k)

change_right : (c : Change) (rows : List Row) → all valid_row rows ≡ true → all valid_row (changed_rows c rows) ≡ true
unfolding changed_rows row_after
change_right (change.SetState r s) rows k = restand_right _ (call_right r (with_state s)) rows k
change_right (change.SetAuxiliary r a) rows k = restand_right _ (call_right r (with_auxiliary a)) rows k
change_right (change.SetLinkId r z) rows k = restand_right _ (call_right r (with_link_id z)) rows k
change_right (change.Join a b) rows k = restand_right _ (join_right a b) rows k
change_right (change.EndAlerting l) rows k = restand_right _ (stop_right l) rows k
change_right (change.Release l) rows k = emptied_right (λ (r : Row). eqb r.leg l) rows k
change_right (change.ReleasePair l p) rows k = emptied_right (λ (r : Row). eqb r.leg l || eqb r.leg p) rows k

pub rows_right : (w : Bool) (c : Option BoardChange) (rows : List Row) → Fine w c → all valid_row rows ≡ true → all valid_row (rows_after c rows) ≡ true
unfolding rows_after valid_row
rows_right w None rows h k = k
rows_right w (Some (Enter p n)) rows h k = enter_right (entered_row p n) rows h.1 k
rows_right w (Some (Apply c)) rows h k = change_right c rows k
