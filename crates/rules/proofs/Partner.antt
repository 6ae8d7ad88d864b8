-- Partners: with whom the book has a leg joined after a list of events.
use Rattle.std.specs.Prelude.{None, Option, Some}
use Prim.Native.Nat.{ℕ}
use native.Mathlib.Omega.{arith}
use mathlib.Core.Path.{◌∙◌, ap, refl, subst, subst⁻¹, ap₂, sym, ◌≡◌}
use mathlib.Core.Logic.{◌⊎◌, inl, inr}
use mathlib.Core.Bool.{◌&&◌, ◌||◌, cond, Bool, not, true, false}
use mathlib.Core.List.{◌++◌, ◌∷◌, List, [], Memᴰ, map}
use lib.Dec.{T, eqb, ltb, leb}
use lib.ListN.{length}
use lib.IntN.{ℤ}
use Rattle.board.proofs.SoundEntries.{legs_one, Sound, one_leg}
use Rattle.board.specs.Changes.{with_link_id, with_state, with_auxiliary}
use Rattle.board.specs.declared.Connection.{Connection}
use Rattle.board.specs.declared.Connection.TheVariants.{WithPartner, WithUser}
use Rattle.board.specs.declared.Entry.{Entry}
use Rattle.board.specs.declared.Party.{Party}
use Rattle.board.specs.Entries.{entry, is_partner, calls, has_leg, taken}
use Rattle.board.specs.States.{delivered}
use Rattle.board.specs.declared.Board.{Board}
use Rattle.board.specs.declared.Call.{Call}
use Rattle.board.specs.declared.Options.{Options}
use Rattle.rules.proofs.Agreement.{next, Together}
use Rattle.rules.proofs.Decided.{Decided, refuses, changes_nothing, opens_leg_lem, sets_state, sets_auxiliary, releases, assigns_link_id, transfers, ends_alerting, decided, refusal_not_0}
use Rattle.rules.proofs.Kept.{entry_path, party_mem, mate_of, remains}
use Rattle.rules.proofs.Presence.{stay_leg, opens_at, ends_at, seen_next, together_sound, Unended, unended_head}
use Rattle.rules.specs.Book.{Book, book_decision, map_connection, change_call, end_alerting, join_legs, changed_entries, entries_after, book_step, book_after, book_rules}
use Rattle.rules.specs.Checks.{BoardChange, Enter, Apply, Decision, Refuse, opened, release_of, returned_by, change_of}
use Rattle.events.specs.EventRecords.{Request, request}
use Rattle.rules.specs.History.{Event, booked, book_at, HasRow, Partners, joins_to, joined_by, opens_leg, transfer_of, stepped}
use Rattle.octets.proofs.Lists.{mem_map, mem_filter, eqb_eq, eqb_self, eqb_sym, any_map, right, left, small_one, mem_perm, p_sym, any_of, test, true_not_false, or_right, both, is_true}
use Rattle.octets.specs.Lists.{filter, any}
use Rattle.events.specs.declared.Refusal.TheVariants as refusal

-- ---- the partner, worked out from event to event

-- an Open of the leg leaves it joined to nobody
abbrev pub since : ℕ → Option BoardChange → Option ℕ → Option ℕ
since l None now = now
since l (Some (Enter p n)) now = cond (eqb l p.leg) None now
since l (Some (Apply c)) now = now

-- the first of the two that is there
abbrev pub first_of : Option ℕ → Option ℕ → Option ℕ
first_of None o = o
first_of (Some m) o = Some m

abbrev pub joins : ℕ → Option BoardChange → Option ℕ → Option ℕ
joins l c now = first_of (joined_by l c) (since l c now)

-- the party to whom a transfer has joined the leg since it was opened
pub partner_of : Book → Option ℕ → List Event → ℕ → Option ℕ
partner_of k now [] l = now
partner_of k now (e ∷ es) l = partner_of (booked k e) (joins l (change_of (book_decision k e.octets e.room)) now) es l

-- ---- what an entry says

abbrev pub Shape : List Entry → ℕ → Option ℕ → Type 0
Shape es l (Some m) = (a : Bool) × Memᴰ (entry l (WithPartner m a)) es
Shape es l None = (c : Call) × Memᴰ (entry l (WithUser c)) es

shape_later : (e : Entry) (es : List Entry) (l : ℕ) (o : Option ℕ) → Shape es l o → Shape (e ∷ es) l o
shape_later e es l None h = (h.0, Memᴰ.tail h.1)
shape_later e es l (Some m) h = (h.0, Memᴰ.tail h.1)

shape_call : (r : ℕ) (f : Call → Call) (es : List Entry) (l : ℕ) (o : Option ℕ) → Shape es l o → Shape (map (map_connection (change_call r f)) es) l o
shape_call r f es l None h = (cond (eqb r h.0.reference.0) (f h.0) h.0, mem_map (map_connection (change_call r f)) h.1)
shape_call r f es l (Some m) h = (h.0, mem_map (map_connection (change_call r f)) h.1)

shape_stop : (n : ℕ) (es : List Entry) (l : ℕ) (o : Option ℕ) → Shape es l o → Shape (map (map_connection (end_alerting n)) es) l o
shape_stop n es l None h = (h.0, mem_map (map_connection (end_alerting n)) h.1)
shape_stop n es l (Some m) h = (h.0 && not (eqb n l), mem_map (map_connection (end_alerting n)) h.1)

shape_filter : (e₀ : Entry) (es : List Entry) (l : ℕ) (o : Option ℕ) → not (eqb l e₀.leg || is_partner l e₀.connection) ≡ true → Shape es l o → Shape (filter (remains e₀) es) l o
shape_filter e₀ es l None k h = (h.0, mem_filter (remains e₀) h.1 k)
shape_filter e₀ es l (Some m) k h = (h.0, mem_filter (remains e₀) h.1 k)

shape_join : (es : List Entry) (x y : Party) → Memᴰ x (calls es) → Memᴰ y (calls es) → (l : ℕ) (now : Option ℕ) → any (has_leg l) es ≡ true → (any (has_leg l) es ≡ true → Shape es l now) →
    Shape (map (map_connection (join_legs x.leg y.leg)) es) l (cond (eqb l x.leg) (Some y.leg) (cond (eqb l y.leg) (Some x.leg) now))
shape_join es x y mx my l now on inv = go (eqb l x.leg) (eqb l y.leg) refl refl
  where
    g : Entry → Entry
    g = map_connection (join_legs x.leg y.leg)

    plain : (o : Option ℕ) → eqb x.leg l ≡ false → eqb y.leg l ≡ false → Shape es l o → Shape (map (map_connection (join_legs x.leg y.leg)) es) l o
    plain None h k s =
        (s.0, subst (λ (e : Entry). Memᴰ e (map (map_connection (join_legs x.leg y.leg)) es)) (entry_path refl (ap₂ (λ (a b : Bool). cond a (WithPartner y.leg (delivered s.0)) (cond b (WithPartner x.leg (delivered s.0)) (WithUser s.0))) h k)) (mem_map (map_connection (join_legs x.leg y.leg)) s.1))
    plain (Some m) h k s = (s.0, mem_map (map_connection (join_legs x.leg y.leg)) s.1)

    go : (a b : Bool) → eqb l x.leg ≡ a → eqb l y.leg ≡ b → Shape (map (map_connection (join_legs x.leg y.leg)) es) l (cond a (Some y.leg) (cond b (Some x.leg) now))
    go true b h k = (
      delivered x.call,
      subst (λ (e : Entry). Memᴰ e (map (map_connection (join_legs x.leg y.leg)) es))
          (entry_path (sym (eqb_eq l x.leg h)) (ap (λ (a : Bool). cond a (WithPartner y.leg (delivered x.call)) (cond (eqb y.leg x.leg) (WithPartner x.leg (delivered x.call)) (WithUser x.call))) (eqb_self x.leg)))
          (mem_map (map_connection (join_legs x.leg y.leg)) (party_mem es mx)),
    )
    go false true h k = (
      delivered y.call,
      subst (λ (e : Entry). Memᴰ e (map (map_connection (join_legs x.leg y.leg)) es))
          (entry_path (sym (eqb_eq l y.leg k)) (ap₂ (λ (a b : Bool). cond a (WithPartner y.leg (delivered y.call)) (cond b (WithPartner x.leg (delivered y.call)) (WithUser y.call)))
          (eqb_sym x.leg y.leg ∙ ap (λ (n : ℕ). eqb n x.leg) (sym (eqb_eq l y.leg k)) ∙ h) (eqb_self y.leg)))
          (mem_map (map_connection (join_legs x.leg y.leg)) (party_mem es my)),
    )
    go false false h k = plain now (eqb_sym x.leg l ∙ h) (eqb_sym y.leg l ∙ k) (inv on)

module _ (l : ℕ) (es : List Entry) (now : Option ℕ) (inv : any (has_leg l) es ≡ true → Shape es l now) where
  abbrev Kept : Decision → Type 0
  Kept d = any (has_leg l) (entries_after (change_of d) es) ≡ true → Shape (entries_after (change_of d) es) l (joins l (change_of d) now)

  -- a transfer joins the leg, or leaves it as it was
  joined_or : (a b : ℕ) → first_of (cond (eqb l a) (Some b) (cond (eqb l b) (Some a) None)) now ≡ cond (eqb l a) (Some b) (cond (eqb l b) (Some a) now)
  joined_or a b = go (eqb l a) (eqb l b)
    where
      go : (x y : Bool) → first_of (cond x (Some b) (cond y (Some a) None)) now ≡ cond x (Some b) (cond y (Some a) now)
      go true y = refl
      go false true = refl
      go false false = refl

  shaped_by : {opt : Options} {z : ℤ} {w : Bool} {q : Request} {d : Decision} → Decided opt z w es q d → Kept d
  unfolding entries_after
  shaped_by (refuses c) = inv
  shaped_by (changes_nothing f g h) = inv
  shaped_by (opens_leg_lem {r = r} {l = m} {d = d} e f g) = enter (eqb l m) refl
    where
      enter : (b : Bool) → eqb l m ≡ b → (b || any (has_leg l) es) ≡ true → Shape (entry m (WithUser (opened r d)) ∷ es) l (cond b None now)
      enter true k h = (opened r d, Memᴰ.head (entry_path (eqb_eq l m k) refl))
      enter false k h = shape_later (entry m (WithUser (opened r d))) es l now (inv h)
  shaped_by (sets_state {r = r} {s = t} e k) = λ h. shape_call r (with_state t) es l now (inv (sym (any_map (has_leg l) (map_connection (change_call r (with_state t))) es) ∙ h))
  shaped_by (sets_auxiliary {r = r} {a = x} e k) = λ h. shape_call r (with_auxiliary x) es l now (inv (sym (any_map (has_leg l) (map_connection (change_call r (with_auxiliary x))) es) ∙ h))
  shaped_by (releases {e = e₀} m k) = struck e₀.leg e₀.connection
    where
      kept : (n : ℕ) (t : Connection) → any (has_leg l) (filter (remains (entry n t)) es) ≡ true → Shape (filter (remains (entry n t)) es) l now
      kept n t h = let i = sym (stay_leg l (entry n t) es) ∙ h in shape_filter (entry n t) es l now (right (any (has_leg l) es) _ i) (inv (left (any (has_leg l) es) _ i))

      struck : (n : ℕ) (t : Connection) → any (has_leg l) (changed_entries (release_of n t) es) ≡ true → Shape (changed_entries (release_of n t) es) l (first_of (joins_to l (release_of n t)) now)
      struck n (WithUser c) = kept n (WithUser c)
      struck n (WithPartner p a) = kept n (WithPartner p a)
  shaped_by (assigns_link_id {p = p} {y = y} i m e k) = λ h.
      shape_call p.call.reference.0 (with_link_id (record { 0 = y })) es l now (inv (sym (any_map (has_leg l) (map_connection (change_call p.call.reference.0 (with_link_id (record { 0 = y })))) es) ∙ h))
  shaped_by (transfers {p = p} {o = q} i m n k) = λ h.
      subst⁻¹ (λ (o : Option ℕ). Shape (map (map_connection (join_legs p.leg q.leg)) es) l o) (joined_or p.leg q.leg)
      (shape_join es p q m n l now (sym (any_map (has_leg l) (map_connection (join_legs p.leg q.leg)) es) ∙ h) inv)
  shaped_by (ends_alerting {l = m}) = λ h. shape_stop m es l now (inv (sym (any_map (has_leg l) (map_connection (end_alerting m)) es) ∙ h))

pub shaped_next : (k : Book) (e : Event) (l : ℕ) (now : Option ℕ) → (any (has_leg l) k.entries ≡ true → Shape k.entries l now) →
    any (has_leg l) (booked k e).entries ≡ true → Shape (booked k e).entries l (joins l (change_of (book_decision k e.octets e.room)) now)
unfolding book_step book_after book_decision book_rules entries_after
shaped_next k e l now inv = go (ltb e.room 128)
  where
    go : (x : Bool) → Kept l k.entries now inv (cond x (Refuse refusal.BufferTooSmall) (book_rules k e.octets))
    go true = inv
    go false = shaped_by l k.entries now inv (decided k.options k.candidate (leb 64 (length k.entries)) k.entries (request e.octets))

pub shaped_list : (k : Book) (list : List Event) (l : ℕ) (now : Option ℕ) → (any (has_leg l) k.entries ≡ true → Shape k.entries l now) →
    any (has_leg l) (book_at k list).entries ≡ true → Shape (book_at k list).entries l (partner_of k now list l)
unfolding book_at partner_of
shaped_list k [] l now inv = inv
shaped_list k (e ∷ es) l now inv = shaped_list (booked k e) es l _ (shaped_next k e l now inv)

pub has_row : {b : Board} {k : Book} → Together b k → (l : ℕ) (t : Connection) → Memᴰ (entry l t) (taken b.rows) → HasRow b l t
has_row {b} t l u m = small_one (filter (has_leg l) (taken b.rows)) (legs_one l t.entries_are) (mem_filter (has_leg l) m (eqb_self l))

pub call_row : {b : Board} {k : Book} → Together b k → (l : ℕ) → Shape k.entries l None → (c : Call) × HasRow b l (WithUser c)
call_row t l h = (h.0, has_row t l (WithUser h.0) (mem_perm (p_sym t.order) h.1))

pub partner_rows : {b : Board} {k : Book} → Together b k → (l m : ℕ) → Shape k.entries l (Some m) → Partners b l m
partner_rows t l m h =
    let here = mem_perm (p_sym t.order) h.1 in
    let r = mate_of t.entries_are l m h.0 here in
    ((h.0, has_row t l (WithPartner m h.0) here), (r.0, has_row t m (WithPartner l r.0) r.1))

-- ---- what a transfer since does

pub shape_there : (es : List Entry) (l : ℕ) (o : Option ℕ) → Shape es l o → any (has_leg l) es ≡ true
shape_there es l None h = any_of (has_leg l) h.1 (eqb_self l)
shape_there es l (Some m) h = any_of (has_leg l) h.1 (eqb_self l)

-- a transfer joins, whatever there was before
pub joins_some : (l m : ℕ) (now : Option ℕ) (c : Option BoardChange) → joined_by l c ≡ Some m → joins l c now ≡ Some m
joins_some l m now c h = ap (λ (o : Option ℕ). first_of o (since l c now)) h

since_none : (l : ℕ) (c : Option BoardChange) → since l c None ≡ None
since_none l None = refl
since_none l (Some (Enter p n)) = go (eqb l p.leg)
  where
    go : (b : Bool) → cond {A = Option ℕ} b None None ≡ None
    go true = refl
    go false = refl
since_none l (Some (Apply c)) = refl

joins_none : (l : ℕ) (c : Option BoardChange) → joined_by l c ≡ None → joins l c None ≡ None
joins_none l c h = ap (λ (o : Option ℕ). first_of o (since l c None)) h ∙ since_none l c

-- a joined leg is joined to nobody else, and is not opened
module _ (l m : ℕ) (a₀ : Bool) (es : List Entry) (s : Sound es) (here : Memᴰ (entry l (WithPartner m a₀)) es) where
  no_call : (x : Party) → Memᴰ x (calls es) → eqb l x.leg ≡ false
  no_call x mx = go (test (eqb l x.leg))
    where
      go : (eqb l x.leg ≡ true) ⊎ (eqb l x.leg ≡ false) → eqb l x.leg ≡ false
      go (inl t) =
          let same : entry l (WithPartner m a₀) ≡ entry x.leg (WithUser x.call) = one_leg s l here (party_mem es mx) (eqb_self l) t in
          let connections : WithPartner m a₀ ≡ WithUser x.call = ap (λ (e : Entry). e.connection) same in
          let z : ◌≡◌ {A = ℕ} 0 1 = cc in absurd (omega arith)
      go (inr t) = t

  release_fixed : (n : ℕ) (t : Connection) → first_of (joins_to l (release_of n t)) (Some m) ≡ Some m
  release_fixed n (WithUser c) = refl
  release_fixed n (WithPartner p a) = refl

  joins_fixed : {opt : Options} {z : ℤ} {w : Bool} {q : Request} {d : Decision} → Decided opt z w es q d → joins l (change_of d) (Some m) ≡ Some m
  joins_fixed (refuses c) = refl
  joins_fixed (changes_nothing f g h) = refl
  joins_fixed (opens_leg_lem {l = n} e f g) = other (eqb l n) refl
    where
      other : (b : Bool) → eqb l n ≡ b → cond b None (Some m) ≡ Some m
      other true h = absurd (true_not_false (any_of (has_leg n) here (eqb_sym n l ∙ h)) e)
      other false h = refl
  joins_fixed (sets_state e h) = refl
  joins_fixed (sets_auxiliary e h) = refl
  joins_fixed (releases {e = e} n h) = release_fixed e.leg e.connection
  joins_fixed (assigns_link_id i n e h) = refl
  joins_fixed (transfers {p = p} {o = q} i n k h) = ap₂ (λ (x y : Bool). first_of (cond x (Some q.leg) (cond y (Some p.leg) None)) (Some m)) (no_call p n) (no_call q k)
  joins_fixed ends_alerting = refl

fixed_next : (k : Book) → Sound k.entries → (e : Event) (l m : ℕ) → Shape k.entries l (Some m) → joins l (change_of (book_decision k e.octets e.room)) (Some m) ≡ Some m
unfolding book_decision book_rules
fixed_next k s e l m h = go (ltb e.room 128)
  where
    go : (x : Bool) → joins l (change_of (cond x (Refuse refusal.BufferTooSmall) (book_rules k e.octets))) (Some m) ≡ Some m
    go true = refl
    go false = joins_fixed l m h.0 k.entries s h.1 (decided k.options k.candidate (leb 64 (length k.entries)) k.entries (request e.octets))

-- an accepted Open of the leg leaves it joined to nobody
opened_none : {opt : Options} {z : ℤ} {w : Bool} {es : List Entry} {q : Request} {d : Decision} (l : ℕ) (now : Option ℕ) → Decided opt z w es q d → eqb (returned_by d) 0 ≡ true → opens_leg l q ≡ true →
    joins l (change_of d) now ≡ None
opened_none l now (refuses c) h k = absurd (true_not_false h (refusal_not_0 c))
opened_none l now (changes_nothing f g s) h k = absurd (true_not_false k (f l))
opened_none l now (opens_leg_lem {l = m} e f g) h k = ap (λ (b : Bool). cond b None now) k
opened_none l now (sets_state e f) h k = absurd (true_not_false k refl)
opened_none l now (sets_auxiliary e f) h k = absurd (true_not_false k refl)
opened_none l now (releases m f) h k = absurd (true_not_false k refl)
opened_none l now (assigns_link_id i m e f) h k = absurd (true_not_false k refl)
opened_none l now (transfers i m n f) h k = absurd (true_not_false k refl)
opened_none l now ends_alerting h k = absurd (true_not_false k refl)

pub opened_next : (k : Book) (e : Event) (l : ℕ) (now : Option ℕ) → opens_at k e l ≡ true → joins l (change_of (book_decision k e.octets e.room)) now ≡ None
unfolding opens_at book_decision book_rules
opened_next k e l now h = go (ltb e.room 128) h
  where
    go : (x : Bool) → (eqb (returned_by (cond x (Refuse refusal.BufferTooSmall) (book_rules k e.octets))) 0 && opens_leg l (request e.octets)) ≡ true → joins l (change_of (cond x (Refuse refusal.BufferTooSmall) (book_rules k e.octets))) now ≡ None
    go true k = absurd (true_not_false k refl)
    go false h =
        opened_none l now (decided k.options k.candidate (leb 64 (length k.entries)) k.entries (request e.octets))
        (left (eqb (returned_by (book_rules k e.octets)) 0) _ h) (right (eqb (returned_by (book_rules k e.octets)) 0) _ h)

-- a leg that is there and not ended is there still
pub still_there : {b : Board} {k : Book} → Together b k → (e : Event) (l : ℕ) → any (has_leg l) k.entries ≡ true → T (not (ends_at k e l)) → any (has_leg l) (booked k e).entries ≡ true
still_there {b} {k} t e l h n = seen_next k (together_sound t) e l ∙ or_right (opens_at k e l) _ (both h (is_true _ n))

pub joined_stays : {b : Board} {k : Book} → Together b k → (list : List Event) (l m : ℕ) → Shape k.entries l (Some m) → Unended k list l → Shape (book_at k list).entries l (Some m)
unfolding book_at book_step
joined_stays {b} {k} t [] l m h f = h
joined_stays {b} {k} t (e ∷ es) l m h f =
    let r = unended_head k e es l f in
    joined_stays {b = (stepped b e).board} {k = booked k e} (next t e).together es l m
    (subst (λ (o : Option ℕ). Shape (booked k e).entries l o) (fixed_next k (together_sound t) e l m h)
    (shaped_next k e l (Some m) (λ _. h) (still_there t e l (shape_there k.entries l (Some m) h) r.0)))
    r.1

pub call_stays : {b : Board} {k : Book} → Together b k → (list : List Event) (l : ℕ) → Shape k.entries l None → Unended k list l →
    ((mid rest : List Event) (e : Event) → list ≡ mid ++ (e ∷ rest) → transfer_of (book_at k mid) e l ≡ None) → Shape (book_at k list).entries l None
unfolding book_at book_step transfer_of
call_stays {b} {k} t [] l h f g = h
call_stays {b} {k} t (e ∷ es) l h f g =
    let r = unended_head k e es l f in
    call_stays {b = (stepped b e).board} {k = booked k e} (next t e).together es l
    (subst (λ (o : Option ℕ). Shape (booked k e).entries l o) (joins_none l (change_of (book_decision k e.octets e.room)) (g [] es e refl))
    (shaped_next k e l None (λ _. h) (still_there t e l (shape_there k.entries l None h) r.0)))
    r.1
    (λ mid rest x p. g (e ∷ mid) rest x (ap {B = List Event} (λ q. e ∷ q) p))

pub alive_stays : {b : Board} {k : Book} → Together b k → (list : List Event) (l : ℕ) → any (has_leg l) k.entries ≡ true → Unended k list l → any (has_leg l) (book_at k list).entries ≡ true
unfolding book_at book_step
alive_stays {b} {k} t [] l h f = h
alive_stays {b} {k} t (e ∷ es) l h f =
    let r = unended_head k e es l f in
    alive_stays {b = (stepped b e).board} {k = booked k e} (next t e).together es l (still_there t e l h r.0) r.1

pub book_at_append : (k : Book) (xs ys : List Event) → book_at k (xs ++ ys) ≡ book_at (book_at k xs) ys
unfolding book_at
book_at_append k [] ys = refl
book_at_append k (x ∷ xs) ys = book_at_append (booked k x) xs ys
