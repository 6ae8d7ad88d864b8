-- Presence: which legs the book has after a list of events.
use Prim.Native.Nat.{ℕ}
use native.Mathlib.Omega.{arith}
use mathlib.Core.Path.{◌∙◌, refl, ap, sym, subst, subst⁻¹, ap₂, ◌≡◌}
use mathlib.Core.Logic.{◌⊎◌, inl, inr}
use mathlib.Core.Bool.{◌&&◌, ◌||◌, Bool, not, true, false, cond, and-true}
use mathlib.Core.List.{◌++◌, ◌∷◌, List, [], Memᴰ}
use lib.Dec.{T, eqb, ltb, leb}
use lib.ListN.{length}
use lib.IntN.{ℤ}
use Rattle.board.proofs.SoundEntries.{Sound, one_leg, sound_perm}
use Rattle.board.specs.Changes.{with_link_id, with_state, with_auxiliary}
use Rattle.board.specs.declared.Connection.{Connection}
use Rattle.board.specs.declared.Connection.TheVariants.{WithUser, WithPartner}
use Rattle.board.specs.declared.Entry.{Entry}
use Rattle.board.specs.Entries.{has_leg, is_partner, entry}
use Rattle.board.specs.declared.Board.{Board}
use Rattle.board.specs.declared.Options.{Options}
use Rattle.rules.proofs.Agreement.{next, Together}
use Rattle.rules.proofs.Decided.{refusal_not_0, Decided, refuses, changes_nothing, opens_leg_lem, sets_state, sets_auxiliary, releases, assigns_link_id, transfers, ends_alerting, decided}
use Rattle.rules.proofs.Kept.{mate_of, remains, released}
use Rattle.rules.specs.Book.{Book, map_connection, change_call, join_legs, entries_after, end_alerting, book_step, book_after, book_decision, book_rules}
use Rattle.rules.specs.Checks.{Decision, returned_by, change_of, Refuse}
use Rattle.events.specs.Refusals.{refusal_number}
use Rattle.events.specs.EventRecords.{request, Request}
use Rattle.rules.specs.History.{Event, accepts, opens_leg, ends_leg, book_at, booked, joined_with, stepped}
use Rattle.events.specs.declared.Refusal.{Refusal}
use Rattle.octets.proofs.Lists.{same_tests, any_has, filter_mem, both, any_of, eqb_eq, left, mem_filter, right, true_not_false, any_map, or_cases, from_true, or_right, is_true, or_left}
use Rattle.octets.specs.Lists.{any, filter}
use Rattle.events.specs.declared.Refusal.TheVariants as refusal

-- ---- what opens and ends a leg, in a list that may hold refused events

-- the event is an accepted Open of the leg
unfoldable pub opens_at : Book → Event → ℕ → Bool
opens_at k e l = accepts k e && opens_leg l (request e.octets)

-- the event is an accepted Release of the leg, or of the party that it is joined with
unfoldable pub ends_at : Book → Event → ℕ → Bool
ends_at k e l = accepts k e && ends_leg k.entries l (request e.octets)

-- an event of the list opened the leg, and none since has ended it
pub record LivesIn (k : Book) (list : List Event) (l : ℕ) : Type 0 where
  pub before : List Event
  pub opener : Event
  pub since : List Event
  pub place : list ≡ before ++ (opener ∷ since)
  pub opened : T (opens_at (book_at k before) opener l)
  pub not_ended : (mid rest : List Event) (e : Event) → since ≡ mid ++ (e ∷ rest) → T (not (ends_at (book_at k (before ++ (opener ∷ mid))) e l))

-- ---- the book after a list, worked out from event to event

-- whether a leg lives, worked out from event to event
pub lives : Book → Bool → List Event → ℕ → Bool
lives k now [] l = now
lives k now (e ∷ es) l = lives (booked k e) (opens_at k e l || (now && not (ends_at k e l))) es l

-- ---- presence after one event

pub stay_leg : (l : ℕ) (e₀ : Entry) (es : List Entry) → any (has_leg l) (filter (remains e₀) es) ≡ (any (has_leg l) es && not (eqb l e₀.leg || is_partner l e₀.connection))
stay_leg l e₀ es = same_tests to from
  where
    S : ℕ → Bool
    S n = not (eqb n e₀.leg || is_partner n e₀.connection)

    to : any (has_leg l) (filter (remains e₀) es) ≡ true → (any (has_leg l) es && not (eqb l e₀.leg || is_partner l e₀.connection)) ≡ true
    to h =
        let r = any_has (has_leg l) (filter (remains e₀) es) h in
        let m = filter_mem (remains e₀) es r.1 in
        both (any_of (has_leg l) m.0 r.2) (ap S (eqb_eq l r.0.leg r.2) ∙ m.1)

    from : (any (has_leg l) es && not (eqb l e₀.leg || is_partner l e₀.connection)) ≡ true → any (has_leg l) (filter (remains e₀) es) ≡ true
    from h =
        let r = any_has (has_leg l) es (left (any (has_leg l) es) _ h) in
        any_of (has_leg l) (mem_filter (remains e₀) r.1 (sym (ap S (eqb_eq l r.0.leg r.2)) ∙ right (any (has_leg l) es) _ h)) r.2

-- the one entry of m is joined to l where l's is joined to m
joined_same : {es : List Entry} → Sound es → (l m : ℕ) (e₀ : Entry) → Memᴰ e₀ es → eqb m e₀.leg ≡ true → is_partner l e₀.connection ≡ any (joined_with l m) es
joined_same {es} s l m e₀ here h = same_tests (to e₀.leg e₀.connection here h) from
  where
    to : (n : ℕ) (t : Connection) → Memᴰ (entry n t) es → eqb m n ≡ true → is_partner l t ≡ true → any (joined_with l m) es ≡ true
    to n (WithUser c) i j k = absurd (true_not_false k refl)
    to n (WithPartner p a) i j k =
        let r = mate_of s n p a i in
        any_of (joined_with l m) r.1 (both k j)

    at : (n : ℕ) (t : Connection) → Memᴰ (entry n t) es → eqb l n ≡ true → is_partner m t ≡ true → is_partner l e₀.connection ≡ true
    at n (WithUser c) i j k = absurd (true_not_false k refl)
    at n (WithPartner p a) i j k =
        let r = mate_of s n p a i in
        ap (is_partner l) (ap (λ (x : Entry). x.connection) (one_leg s m here r.1 h k)) ∙ j

    from : any (joined_with l m) es ≡ true → is_partner l e₀.connection ≡ true
    from k =
        let r = any_has (joined_with l m) es k in
        at r.0.leg r.0.connection r.1 (left (has_leg l r.0) _ r.2) (right (has_leg l r.0) _ r.2)

-- whether the leg is there after a decision: it is opened, or was there and is not ended
abbrev Seen : ℕ → List Entry → Request → Decision → Type 0
Seen l es q d = any (has_leg l) (entries_after (change_of d) es) ≡ ((eqb (returned_by d) 0 && opens_leg l q) || (any (has_leg l) es && not (eqb (returned_by d) 0 && ends_leg es l q)))

not_moved : (l : ℕ) (es : List Entry) (c : Refusal) (x y : Bool) → any (has_leg l) es ≡ ((eqb (refusal_number c) 0 && x) || (any (has_leg l) es && not (eqb (refusal_number c) 0 && y)))
not_moved l es c x y = subst⁻¹ (λ (b : Bool). any (has_leg l) es ≡ ((b && x) || (any (has_leg l) es && not (b && y)))) (refusal_not_0 c) (sym (and-true (any (has_leg l) es)))

seen_by : {opt : Options} {z : ℤ} {w : Bool} {q : Request} {d : Decision} (l : ℕ) (es : List Entry) → Sound es → Decided opt z w es q d → Seen l es q d
unfolding entries_after
seen_by {q} l es s (refuses c) = not_moved l es c (opens_leg l q) (ends_leg es l q)
seen_by {q} l es s (changes_nothing f g h) = sym (ap₂ (λ (x y : Bool). x || (any (has_leg l) es && not y)) (f l) (g l) ∙ and-true (any (has_leg l) es))
seen_by l es s (opens_leg_lem {l = m} e f g) = ap (λ (b : Bool). eqb l m || b) (sym (and-true (any (has_leg l) es)))
seen_by l es s (sets_state {r = r} {s = t} e h) = any_map (has_leg l) (map_connection (change_call r (with_state t))) es ∙ sym (and-true (any (has_leg l) es))
seen_by l es s (sets_auxiliary {r = r} {a = x} e h) = any_map (has_leg l) (map_connection (change_call r (with_auxiliary x))) es ∙ sym (and-true (any (has_leg l) es))
seen_by l es s (releases {l = m} {e = e₀} i h) =
    ap (any (has_leg l)) (released e₀.leg e₀.connection es)
    ∙ stay_leg l e₀ es
    ∙ ap₂ (λ (x y : Bool). any (has_leg l) es && not (x || y)) (ap (eqb l) (sym (eqb_eq m e₀.leg h))) (joined_same s l m e₀ i h)
seen_by l es s (assigns_link_id {p = p} {y = z} i m e h) = any_map (has_leg l) (map_connection (change_call p.call.reference.0 (with_link_id (record { 0 = z })))) es ∙ sym (and-true (any (has_leg l) es))
seen_by l es s (transfers {p = x} {o = y} i m n h) = any_map (has_leg l) (map_connection (join_legs x.leg y.leg)) es ∙ sym (and-true (any (has_leg l) es))
seen_by l es s (ends_alerting {l = m}) = any_map (has_leg l) (map_connection (end_alerting m)) es ∙ sym (and-true (any (has_leg l) es))

pub seen_next : (k : Book) → Sound k.entries → (e : Event) (l : ℕ) → any (has_leg l) (booked k e).entries ≡ (opens_at k e l || (any (has_leg l) k.entries && not (ends_at k e l)))
unfolding book_step book_after book_decision book_rules opens_at ends_at entries_after
seen_next k s e l = go (ltb e.room 128)
  where
    go : (x : Bool) → Seen l k.entries (request e.octets) (cond x (Refuse refusal.BufferTooSmall) (book_rules k e.octets))
    go true = sym (and-true (any (has_leg l) k.entries))
    go false = seen_by l k.entries s (decided k.options k.candidate (leb 64 (length k.entries)) k.entries (request e.octets))

pub together_sound : {b : Board} {k : Book} → Together b k → Sound k.entries
together_sound t = sound_perm t.order t.entries_are

pub lives_is : {b : Board} {k : Book} → Together b k → (now : Bool) (list : List Event) (l : ℕ) → any (has_leg l) k.entries ≡ now → any (has_leg l) (book_at k list).entries ≡ lives k now list l
unfolding book_at lives book_step
lives_is {b} {k} t now [] l h = h
lives_is {b} {k} t now (e ∷ es) l h = lives_is {b = (stepped b e).board} {k = booked k e} (next t e).together _ es l (seen_next k (together_sound t) e l ∙ ap (λ (x : Bool). opens_at k e l || (x && not (ends_at k e l))) h)

-- ---- the same by the split of the list

-- no event of the list ends_at the leg
abbrev pub Unended : Book → List Event → ℕ → Type 0
Unended k list l = (mid rest : List Event) (e : Event) → list ≡ mid ++ (e ∷ rest) → T (not (ends_at (book_at k mid) e l))

pub nil_is_no_split : {A : Type 0} (mid rest : List A) (e : A) → [] ≡ mid ++ (e ∷ rest) → ⊥
nil_is_no_split [] rest e h = let z : ◌≡◌ {A = ℕ} 0 1 = cc in omega arith
nil_is_no_split (x ∷ mid) rest e h = let z : ◌≡◌ {A = ℕ} 0 1 = cc in omega arith

unended_cons : (k : Book) (e : Event) (es : List Event) (l : ℕ) → T (not (ends_at k e l)) → Unended (booked k e) es l → Unended k (e ∷ es) l
unfolding book_at
unended_cons k e es l h f [] rest e' p = let d : e ≡ e' = cc in subst (λ (x : Event). T (not (ends_at k x l))) d h
unended_cons k e es l h f (x ∷ mid) rest e' p =
    let d : e ≡ x = cc in
    let q : es ≡ mid ++ (e' ∷ rest) = cc in
    subst (λ (y : Event). T (not (ends_at (book_at (booked k y) mid) e' l))) d (f mid rest e' q)

pub unended_head : (k : Book) (e : Event) (es : List Event) (l : ℕ) → Unended k (e ∷ es) l → T (not (ends_at k e l)) × Unended (booked k e) es l
unfolding book_at
unended_head k e es l f = (f [] es e refl, λ mid rest e' p. f (e ∷ mid) rest e' (ap {B = List Event} (λ r. e ∷ r) p))

lives_cons : (k : Book) (e : Event) (es : List Event) (l : ℕ) → LivesIn (booked k e) es l → LivesIn k (e ∷ es) l
unfolding book_at
lives_cons k e es l v = record {
  before = e ∷ v.before;
  opener = v.opener;
  since = v.since;
  place = ap {B = List Event} (λ r. e ∷ r) v.place;
  opened = v.opened;
  not_ended = v.not_ended;
}

-- the leg lives at the end where it lived at the start and nothing ended it, or where an event opened it and nothing since ended it
pub lives_to : (k : Book) (now : Bool) (list : List Event) (l : ℕ) → lives k now list l ≡ true → ((now ≡ true) × Unended k list l) ⊎ LivesIn k list l
unfolding lives book_at
lives_to k now [] l h = inl (h, λ mid rest e p. absurd (nil_is_no_split mid rest e p))
lives_to k now (e ∷ es) l h = go (lives_to (booked k e) (opens_at k e l || (now && not (ends_at k e l))) es l h)
  where
    go : (((opens_at k e l || (now && not (ends_at k e l))) ≡ true) × Unended (booked k e) es l) ⊎ LivesIn (booked k e) es l → ((now ≡ true) × Unended k (e ∷ es) l) ⊎ LivesIn k (e ∷ es) l
    go (inr v) = inr (lives_cons k e es l v)
    go (inl v) = by (or_cases (opens_at k e l) (now && not (ends_at k e l)) v.0)
      where
        by : (opens_at k e l ≡ true) ⊎ ((now && not (ends_at k e l)) ≡ true) → ((now ≡ true) × Unended k (e ∷ es) l) ⊎ LivesIn k (e ∷ es) l
        by (inl o) = inr (record { before = []; opener = e; since = es; place = refl; opened = from_true o; not_ended = v.1 })
        by (inr o) = inl (left now _ o, unended_cons k e es l (from_true (right now _ o)) v.1)

lives_stay : (k : Book) (list : List Event) (l : ℕ) → Unended k list l → lives k true list l ≡ true
unfolding lives
lives_stay k [] l f = refl
lives_stay k (e ∷ es) l f =
    let r = unended_head k e es l f in
    subst⁻¹ (λ (b : Bool). lives (booked k e) b es l ≡ true) (or_right (opens_at k e l) (not (ends_at k e l)) (is_true _ r.0)) (lives_stay (booked k e) es l r.1)

pub lives_from : (k : Book) (now : Bool) (list before : List Event) (opener : Event) (after : List Event) (l : ℕ) → list ≡ before ++ (opener ∷ after) → T (opens_at (book_at k before) opener l) →
    ((mid rest : List Event) (e : Event) → after ≡ mid ++ (e ∷ rest) → T (not (ends_at (book_at k (before ++ (opener ∷ mid))) e l))) → lives k now list l ≡ true
unfolding lives book_at
lives_from k now [] before opener after l p o f = absurd (nil_is_no_split before after opener p)
lives_from k now (e ∷ es) [] opener after l p o f =
    let d : e ≡ opener = cc in
    let q : es ≡ after = cc in
    subst⁻¹ (λ (x : Event). lives (booked k x) (opens_at k x l || (now && not (ends_at k x l))) es l ≡ true) d
    (subst⁻¹ (λ (r : List Event). lives (booked k opener) (opens_at k opener l || (now && not (ends_at k opener l))) r l ≡ true) q
    (subst⁻¹ (λ (b : Bool). lives (booked k opener) b after l ≡ true) (or_left (opens_at k opener l) (now && not (ends_at k opener l)) (is_true _ o)) (lives_stay (booked k opener) after l f)))
lives_from k now (e ∷ es) (x ∷ before) opener after l p o f =
    let d : e ≡ x = cc in
    let q : es ≡ before ++ (opener ∷ after) = cc in
    lives_from (booked k e) _ es before opener after l q
    (subst⁻¹ (λ (y : Event). T (opens_at (book_at (booked k y) before) opener l)) d o)
    (subst⁻¹ (λ (y : Event). (mid rest : List Event) (e : Event) → after ≡ mid ++ (e ∷ rest) → T (not (ends_at (book_at (booked k y) (before ++ (opener ∷ mid))) e l))) d f)
