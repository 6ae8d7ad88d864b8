-- The whole-history theorem: demand 3, for all option octets and all lists of events.
use Rattle.std.specs.Prelude.{None, Option, Some}
use Prim.Native.Nat.{ℕ}
use mathlib.Core.Path.{◌∙◌, ◌≡◌, refl, ap, sym, subst, subst⁻¹}
use mathlib.Core.Logic.{◌↔◌, ◌⊎◌, inl, inr}
use mathlib.Core.Bool.{◌&&◌, false, true, not, Bool, cond}
use mathlib.Core.List.{◌++◌, ◌∷◌, List, [], append_assoc}
use lib.Dec.{eqb, T}
use Rattle.board.specs.declared.Connection.TheVariants.{WithUser}
use Rattle.board.specs.Entries.{has_leg}
use Rattle.board.specs.Making.{options, making_refusal, made, empty_board, fresh}
use Rattle.board.specs.declared.Board.{Board}
use Rattle.board.specs.declared.Call.{Call}
use Rattle.board.specs.declared.Options.{Options}
use Rattle.rules.proofs.Agreement.{Together, next, played_together, empty_together, opened_valid, same_returns, sound_together}
use Rattle.rules.proofs.Errors.{untouched_step, unharmed, octets_error}
use Rattle.rules.proofs.Partner.{has_row, Shape, partner_of, shaped_list, book_at_append, opened_next, shaped_next, call_stays, joined_stays, joins_some, still_there, alive_stays, shape_there, partner_rows, call_row}
use Rattle.rules.proofs.Presence.{nil_is_no_split, LivesIn, lives, opens_at, ends_at, lives_is, lives_from, Unended, seen_next, together_sound, lives_to}
use Rattle.rules.specs.Book.{Book, book_after, entries_after, candidate_moves, book_step, book_decision, fresh_book, fed_options, empty_book}
use Rattle.rules.specs.Checks.{Decision, returned_by, change_of, Refuse, Accept}
use Rattle.events.specs.EventRecords.{request}
use Rattle.rules.specs.History.{history, booked, Event, accepts, stepped, book_at, board_at, book_returns, accepted, opens, ends, Lives, ends_leg, Agree, transfer_of, joined_by, on_board, Partners, HasRow, WholeHistory, Demand3Of, Demand3}
use Rattle.rules.specs.Step.{Outcome}
use Rattle.octets.proofs.Lists.{true_not_false, both, left, right, from_true, is_true, mem_perm, p_sym, length_perm, or_left, any_perm, is_not}
use Rattle.octets.specs.Lists.{all, any}

-- ---- the history: a refused event changes neither book nor board

refused_after : (d : Decision) (k : Book) → eqb (returned_by d) 0 ≡ false → book_after d k ≡ k
unfolding book_after entries_after candidate_moves
refused_after (Refuse c) k h = refl
refused_after (Accept c w) k h = absurd (true_not_false refl h)

refused_booked : (k : Book) (e : Event) → accepts k e ≡ false → booked k e ≡ k
unfolding book_step
refused_booked k e h = refused_after (book_decision k e.octets e.room) k h

refused_stepped : {b : Board} {k : Book} → Together b k → (e : Event) → accepts k e ≡ false → (stepped b e).board ≡ b
refused_stepped {b} t e h = ap (λ (o : Outcome). o.board) (untouched_step b e (ap (λ (n : ℕ). eqb n 0) (next t e).same ∙ h))

next_booked : {b : Board} {k : Book} → Together b k → (e : Event) → Together (stepped b e).board (booked k e)
unfolding book_step
next_booked t e = (next t e).together

history_book : (k : Book) (list : List Event) → book_at k (history k list) ≡ book_at k list
unfolding book_at history
history_book k [] = refl
history_book k (e ∷ es) = go (accepts k e) refl (history_book (booked k e) es)
  where
    go : (x : Bool) → accepts k e ≡ x → book_at (booked k e) (history (booked k e) es) ≡ book_at (booked k e) es →
        book_at k (cond x (e ∷ history (booked k e) es) (history (booked k e) es)) ≡ book_at (booked k e) es
    go true h f = f
    go false h f = ap (λ (j : Book). book_at j (history (booked k e) es)) (sym (refused_booked k e h)) ∙ f

history_board : {b : Board} {k : Book} → Together b k → (list : List Event) → board_at b (history k list) ≡ board_at b list
unfolding board_at history
history_board {b} {k} t [] = refl
history_board {b} {k} t (e ∷ es) = go (accepts k e) refl (history_board {b = (stepped b e).board} {k = booked k e} (next_booked t e) es)
  where
    go : (x : Bool) → accepts k e ≡ x → board_at (stepped b e).board (history (booked k e) es) ≡ board_at (stepped b e).board es →
        board_at b (cond x (e ∷ history (booked k e) es) (history (booked k e) es)) ≡ board_at (stepped b e).board es
    go true h f = f
    go false h f = ap (λ (c : Board). board_at c (history (booked k e) es)) (sym (refused_stepped t e h)) ∙ f

-- no event of the list is refused by the book
abbrev Accepted : Book → List Event → Type 0
Accepted k list = all (λ (n : ℕ). eqb n 0) (book_returns k list) ≡ true

history_accepted : (k : Book) (list : List Event) → Accepted k (history k list)
unfolding book_returns history
history_accepted k [] = refl
history_accepted k (e ∷ es) = go (accepts k e) refl (history_accepted (booked k e) es)
  where
    go : (x : Bool) → accepts k e ≡ x → Accepted (booked k e) (history (booked k e) es) → Accepted k (cond x (e ∷ history (booked k e) es) (history (booked k e) es))
    go true h f = both h f
    go false h f = subst (λ (j : Book). Accepted j (history (booked k e) es)) (refused_booked k e h) f

accepted_at : (k : Book) (list before rest : List Event) (e : Event) → Accepted k list → list ≡ before ++ (e ∷ rest) → accepts (book_at k before) e ≡ true
unfolding book_returns book_at
accepted_at k [] before rest e h p = absurd (nil_is_no_split before rest e p)
accepted_at k (x ∷ xs) [] rest e h p = let d : x ≡ e = cc in subst (λ (y : Event). accepts k y ≡ true) d (left (accepts k x) _ h)
accepted_at k (x ∷ xs) (y ∷ before) rest e h p =
    let d : x ≡ y = cc in
    let q : xs ≡ before ++ (e ∷ rest) = cc in
    subst (λ (z : Event). accepts (book_at (booked k z) before) e ≡ true) d (accepted_at (booked k x) xs before rest e (right (accepts k x) _ h) q)

accepted_is : (k : Book) (list : List Event) → accepted (book_returns k list) list ≡ history k list
unfolding accepted book_returns history
accepted_is k [] = refl
accepted_is k (e ∷ es) = ap (λ (r : List Event). cond (accepts k e) (e ∷ r) r) (accepted_is (booked k e) es)

-- ---- in a history every Open opens its leg, and every Release ends it

module _ (k : Book) (h : List Event) (l : ℕ) (ok : Accepted k h) where
  place_of : (v : LivesIn k h l) (mid rest : List Event) (e : Event) → v.since ≡ mid ++ (e ∷ rest) → h ≡ (v.before ++ (v.opener ∷ mid)) ++ (e ∷ rest)
  place_of v mid rest e p = v.place ∙ ap (λ (r : List Event). v.before ++ (v.opener ∷ r)) p ∙ sym (append_assoc v.before (v.opener ∷ mid) (e ∷ rest))

  to_lives : LivesIn k h l → Lives k h l
  unfolding opens opens_at ends ends_at
  to_lives v = record {
    before = v.before;
    opener = v.opener;
    since = v.since;
    place = v.place;
    opened = from_true (right (accepts (book_at k v.before) v.opener) _ (is_true _ v.opened));
    not_ended = λ mid rest e p. subst (λ (b : Bool). T (not (b && ends_leg (book_at k (v.before ++ (v.opener ∷ mid))).entries l (request e.octets))))
        (accepted_at k h (v.before ++ (v.opener ∷ mid)) rest e ok (place_of v mid rest e p)) (v.not_ended mid rest e p);
  }

  not_both : (a b : Bool) → T (not b) → T (not (a && b))
  not_both true b t = t
  not_both false b t = tt

  of_lives : Lives k h l → LivesIn k h l
  unfolding opens opens_at ends ends_at
  of_lives v = record {
    before = v.before;
    opener = v.opener;
    since = v.since;
    place = v.place;
    opened = from_true (both (accepted_at k h v.before v.since v.opener ok v.place) (is_true _ v.opened));
    not_ended = λ mid rest e p. not_both (accepts (book_at k (v.before ++ (v.opener ∷ mid))) e) _ (v.not_ended mid rest e p);
  }

-- ---- at the end of a list

agree : {b : Board} {k : Book} → Together b k → Agree b k
agree {b} {k} t = record {
  options = t.options;
  candidate = t.candidate;
  each = λ e m. has_row t e.leg e.connection (mem_perm (p_sym t.order) m);
  as_many = length_perm t.order;
  no_other = λ e m. mem_perm t.order m;
}

transfer_is : (k : Book) (e : Event) (l m : ℕ) → transfer_of k e l ≡ Some m → joined_by l (change_of (book_decision k e.octets e.room)) ≡ Some m
unfolding transfer_of
transfer_is k e l m h = h

-- a board and its book that begin together, with no entry: a leg that lives, and what transfers made of it
module _ (b₀ : Board) (k₀ : Book) (t₀ : Together b₀ k₀) (no-entries : k₀.entries ≡ []) where
  t_at : (list : List Event) → Together (board_at b₀ list) (book_at k₀ list)
  t_at list = played_together t₀ list

  empty : (l : ℕ) → any (has_leg l) k₀.entries ≡ false
  empty l = ap (any (has_leg l)) (no-entries)

  -- the leg's entry is as the fold over the list says
  shape_at : (list : List Event) (l : ℕ) → any (has_leg l) (book_at k₀ list).entries ≡ true → Shape (book_at k₀ list).entries l (partner_of k₀ None list l)
  shape_at list l = shaped_list k₀ list l None (λ k. absurd (true_not_false k (empty l)))

  there : (list : List Event) (l : ℕ) → LivesIn k₀ list l → any (has_leg l) (book_at k₀ list).entries ≡ true
  there list l v = lives_is t₀ false list l (empty l) ∙ lives_from k₀ false list v.before v.opener v.since l v.place v.opened v.not_ended

  module _ (before : List Event) (opener : Event) (since : List Event) (l : ℕ) (opened-here : T (opens_at (book_at k₀ before) opener l))
      (unended : (mid rest : List Event) (e : Event) → since ≡ mid ++ (e ∷ rest) → T (not (ends_at (book_at k₀ (before ++ (opener ∷ mid))) e l))) where
    t₁ : Together (stepped (board_at b₀ before) opener).board (booked (book_at k₀ before) opener)
    t₁ = next_booked (t_at before) opener

    at_mid : (mid : List Event) → book_at k₀ (before ++ (opener ∷ mid)) ≡ book_at (booked (book_at k₀ before) opener) mid
    unfolding book_at
    at_mid mid = book_at_append k₀ before (opener ∷ mid)

    split_at : (mid : List Event) (e : Event) (rest : List Event) → book_at (booked (book_at k₀ before) opener) (mid ++ (e ∷ rest)) ≡ book_at (booked (book_at (booked (book_at k₀ before) opener) mid) e) rest
    unfolding book_at
    split_at mid e rest = book_at_append (booked (book_at k₀ before) opener) mid (e ∷ rest)

    unended_since : Unended (booked (book_at k₀ before) opener) since l
    unended_since mid rest e p = subst (λ (k : Book). T (not (ends_at k e l))) (at_mid mid) (unended mid rest e p)

    first_shape : Shape (booked (book_at k₀ before) opener).entries l None
    first_shape =
        subst (λ (o : Option ℕ). Shape (booked (book_at k₀ before) opener).entries l o)
        (opened_next (book_at k₀ before) opener l (partner_of k₀ None before l) (is_true _ opened-here))
        (shaped_next (book_at k₀ before) opener l (partner_of k₀ None before l) (shape_at before l)
        (seen_next (book_at k₀ before) (together_sound (t_at before)) opener l ∙ or_left (opens_at (book_at k₀ before) opener l) _ (is_true _ opened-here)))

    -- no transfer since: one call
    still_call : ((mid rest : List Event) (e : Event) → since ≡ mid ++ (e ∷ rest) → transfer_of (book_at k₀ (before ++ (opener ∷ mid))) e l ≡ None) → Shape (book_at k₀ (before ++ (opener ∷ since))).entries l None
    still_call g =
        subst⁻¹ (λ (k : Book). Shape k.entries l None) (at_mid since)
        (call_stays t₁ since l first_shape unended_since (λ mid rest e p. subst (λ (k : Book). transfer_of k e l ≡ None) (at_mid mid) (g mid rest e p)))

    -- a transfer since: joined to that party
    joined_since : (mid rest : List Event) (e : Event) (m : ℕ) → since ≡ mid ++ (e ∷ rest) → transfer_of (book_at k₀ (before ++ (opener ∷ mid))) e l ≡ Some m → Shape (book_at k₀ (before ++ (opener ∷ since))).entries l (Some m)
    joined_since mid rest e m p h =
        subst⁻¹ (λ (k : Book). Shape k.entries l (Some m)) (at_mid since ∙ ap (book_at k₁) p ∙ split_at mid e rest)
        (joined_stays t₂ rest l m
        (subst (λ (o : Option ℕ). Shape (booked (book_at k₁ mid) e).entries l o)
        (joins_some l m (partner_of k₁ None mid l) (change_of (book_decision (book_at k₁ mid) e.octets e.room)) (transfer_is (book_at k₁ mid) e l m (subst (λ (k : Book). transfer_of k e l ≡ Some m) (at_mid mid) h)))
        (shaped_next (book_at k₁ mid) e l (partner_of k₁ None mid l) (shaped_list k₁ mid l None (λ _. first_shape)) (still_there (played_together t₁ mid) e l alive (unended_since mid rest e p))))
        ended_not)
      where
        k₁ : Book
        k₁ = booked (book_at k₀ before) opener

        alive : any (has_leg l) (book_at (booked (book_at k₀ before) opener) mid).entries ≡ true
        alive =
            alive_stays t₁ mid l (shape_there (booked (book_at k₀ before) opener).entries l None first_shape)
            (λ mid₁ rest₁ x q. unended_since mid₁ (rest₁ ++ (e ∷ rest)) x (p ∙ ap (λ (r : List Event). r ++ (e ∷ rest)) q ∙ append_assoc mid₁ (x ∷ rest₁) (e ∷ rest)))

        t₂ : Together (stepped (board_at (stepped (board_at b₀ before) opener).board mid) e).board (booked (book_at (booked (book_at k₀ before) opener) mid) e)
        t₂ = next_booked (played_together t₁ mid) e

        ended_not : Unended (booked (book_at (booked (book_at k₀ before) opener) mid) e) rest l
        ended_not mid₂ rest₂ x q =
            subst (λ (k : Book). T (not (ends_at k x l))) (split_at mid e mid₂)
            (unended_since (mid ++ (e ∷ mid₂)) rest₂ x (p ∙ ap (λ (r : List Event). mid ++ (e ∷ r)) q ∙ sym (append_assoc mid (e ∷ mid₂) (x ∷ rest₂))))

  -- presence and partner, of a list that may hold refused events
  on_board_lem : (list : List Event) (l : ℕ) → T (on_board (board_at b₀ list) l) ↔ LivesIn k₀ list l
  on_board_lem list l = (to, from)
    where
      t : Together (board_at b₀ list) (book_at k₀ list)
      t = t_at list

      seen_is : on_board (board_at b₀ list) l ≡ lives k₀ false list l
      seen_is = any_perm (has_leg l) t.order ∙ lives_is t₀ false list l (empty l)

      to : T (on_board (board_at b₀ list) l) → LivesIn k₀ list l
      to h = go (lives_to k₀ false list l (sym seen_is ∙ is_true _ h))
        where
          go : ((false ≡ true) × Unended k₀ list l) ⊎ LivesIn k₀ list l → LivesIn k₀ list l
          go (inl v) = absurd (true_not_false v.0 refl)
          go (inr v) = v

      from : LivesIn k₀ list l → T (on_board (board_at b₀ list) l)
      from v = from_true (any_perm (has_leg l) t.order ∙ there list l v)

  joined_to : (list : List Event) (l : ℕ) (v : LivesIn k₀ list l) (mid rest : List Event) (e : Event) (m : ℕ) → v.since ≡ mid ++ (e ∷ rest) →
      transfer_of (book_at k₀ (v.before ++ (v.opener ∷ mid))) e l ≡ Some m → Partners (board_at b₀ list) l m
  joined_to list l v mid rest e m p h =
      partner_rows (t_at list) l m
      (subst⁻¹ (λ (r : List Event). Shape (book_at k₀ r).entries l (Some m)) v.place
      (joined_since v.before v.opener v.since l v.opened v.not_ended mid rest e m p h))

  has_call : (list : List Event) (l : ℕ) (v : LivesIn k₀ list l) →
      ((mid rest : List Event) (e : Event) → v.since ≡ mid ++ (e ∷ rest) → transfer_of (book_at k₀ (v.before ++ (v.opener ∷ mid))) e l ≡ None) →
      (c : Call) × HasRow (board_at b₀ list) l (WithUser c)
  has_call list l v g =
      call_row (t_at list) l
      (subst⁻¹ (λ (r : List Event). Shape (book_at k₀ r).entries l None) v.place
      (still_call v.before v.opener v.since l v.opened v.not_ended g))

  -- ---- the theorem

  from_empty : (list : List Event) → WholeHistory b₀ k₀ list
  unfolding of_lives
  from_empty list = record {
    refusals = same_returns t₀ list;
    history_is = ap (λ (ns : List ℕ). accepted ns list) (same_returns t₀ list) ∙ accepted_is k₀ list;
    history_accepted = history_accepted k₀ list;
    history_book = history_book k₀ list;
    history_board = same;
    agree = agree t;
    presence = λ l. (λ h. to_lives k₀ hs l ok ((on_board_lem hs l).0 (subst⁻¹ (λ (c : Board). T (on_board c l)) same h)), λ v. subst (λ (c : Board). T (on_board c l)) same ((on_board_lem hs l).1 (of_lives k₀ hs l ok v)));
    partner = λ l v. (
      λ mid rest e p m h. subst (λ (c : Board). Partners c l m) same (joined_to hs l (of_lives k₀ hs l ok v) mid rest e m p h),
      λ g. subst (λ (c : Board). (d : Call) × HasRow c l (WithUser d)) same (has_call hs l (of_lives k₀ hs l ok v) g),
    );
    link_ids = from_true t.entries_are.lids;
    errors = λ before after e p h. unharmed (board_at b₀ before) e (is_true _ h);
    errors_octets = λ before after e p h. unharmed (board_at b₀ before) e (octets_error _ (is_true _ h));
    untouched = λ before after e p h. untouched_step (board_at b₀ before) e (is_not (is_true _ h));
    sound_board = from_true (sound_together t);
  }
    where
      hs : List Event
      hs = history k₀ list

      ok : Accepted k₀ (history k₀ list)
      ok = history_accepted k₀ list

      same : board_at b₀ (history k₀ list) ≡ board_at b₀ list
      same = history_board t₀ list

      t : Together (board_at b₀ list) (book_at k₀ list)
      t = t_at list

pub whole_history_of : (o : Options) → Demand3Of o
whole_history_of o v list = from_empty (empty_board o) (empty_book o) (empty_together o (is_true _ v)) refl list

pub whole_history : Demand3
unfolding fresh fresh_book
whole_history way s a list = go (making_refusal way (options s a)) refl
  where
    go : (r : Option ℕ) → making_refusal way (options s a) ≡ r → WholeHistory (made (options s a) r).board (empty_book (fed_options (options s a) r)) list
    go None h = whole_history_of (options s a) (from_true (opened_valid way (options s a) h)) list
    go (Some n) h = whole_history_of (options 0 0) tt list
