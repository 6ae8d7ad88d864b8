-- Sound entries stay sound, whatever is decided of them.
use Rattle.std.proofs.Math.Bool.{and_comm}
use Rattle.std.specs.Prelude.{None, Option, Some}
use Prim.Native.Nat.{◌+◌, ◌<◌, ◌≤◌, ℕ, zero, suc}
use native.Mathlib.Nat.{le_trans}
use native.Mathlib.Omega.{arith}
use mathlib.Core.Path.{◌∙◌, ap, ◌≡◌, subst, subst⁻¹, refl, sym, ap₂}
use mathlib.Core.Logic.{◌⊎◌, inl, inr}
use mathlib.Core.Bool.{◌&&◌, ◌||◌, Bool, false, not, true, cond}
use mathlib.Core.List.{◌∷◌, List, Memᴰ, map, []}
use lib.Dec.{eqb, leb, le→leb, nleb→lt, leb→le}
use lib.ListN.{length}
use lib.IntN.{ℤ}
use Rattle.board.proofs.SoundEntries.{Sound, is_number_same, refs_one, one_leg}
use Rattle.board.specs.Changes.{with_state, with_auxiliary, with_link_id}
use Rattle.board.specs.declared.Connection.{Connection}
use Rattle.board.specs.declared.Connection.TheVariants.{WithUser, WithPartner}
use Rattle.board.specs.declared.Entry.{Entry}
use Rattle.board.specs.declared.Party.{Party}
use Rattle.board.specs.Entries.{entry, calls, party_of, has_leg, has_reference, reference_of, link_ids, linked, link_id_of, link_id_in, present, has_link_id, is_link_id, is_number, is_partner, has_party_reference}
use Rattle.board.specs.LinkIds.{free_link_id, unless_live, live, most_link_ids}
use Rattle.board.specs.Soundness.{answers_to, partnered, joined_back, valid_partner, same_link_ids, valid_entry, same_legs, same_references, same_numbers, valid_connection, same_link_ids_in}
use Rattle.board.specs.States.{valid_reference, valid_call, valid_direction, holdable, idle, delivered, same_state, active, outgoing}
use Rattle.board.specs.declared.AuxiliaryState.{AuxiliaryState}
use Rattle.board.specs.declared.Call.{Call}
use Rattle.board.specs.declared.CallState.{CallState}
use Rattle.board.specs.declared.CallState.TheVariants.{OutgoingCallProceeding, CallDelivered, CallReceived, Active}
use Rattle.board.specs.declared.Direction.{Direction}
use Rattle.board.specs.declared.Direction.TheVariants.{Outgoing, Incoming}
use Rattle.board.specs.declared.Options.{Options}
use Rattle.rules.proofs.Decided.{decided, Decided, refuses, changes_nothing, opens_leg_lem, sets_state, sets_auxiliary, releases, assigns_link_id, transfers, ends_alerting}
use Rattle.rules.proofs.Order.{calls_one}
use Rattle.rules.specs.Book.{map_connection, change_call, end_alerting, join_legs, entries_after}
use Rattle.rules.specs.Checks.{opened, named, may_progress, decide, Decision, Apply, release_of, change_of}
use Rattle.events.specs.EventRecords.{Request, in_range}
use Rattle.board.specs.declared.RuleSet.{RuleSet}
use Rattle.board.specs.RuleSets.{rule_set, alerting_allowed}
use Rattle.rules.specs.Pairing.{verdict, calls_pair, auxiliaries_pair}
use Rattle.rules.specs.Serving.{same_call, partner_for}
use Rattle.rules.specs.LinkIdGiven.{upward, FirstNotLive}
use Rattle.octets.proofs.Lists.{filter_map_mem, mem_filter_map, any_has, right, all_at, true_not_false, eqb_eq, left, is_not, both, any_of, eqb_self, none_by, or_right, all_by, any_map, any_ext, distinct_map, all_map, all_ext}
use Rattle.octets.proofs.Lists.{map_mem, length_filter_of_map, small_mem, find_mem, mem_filter, test, or_false, none_of, or_left, is_true, filter_map_le, from_true, eqb_of, neither, filter_mem, distinct_filter, filter_filter_le, mem_map, filter_none, eqb_sym}
use Rattle.octets.proofs.SameInteger.{same_integer_eq, same_integer_self}
use Rattle.octets.specs.Lists.{any, distinct, filter, cons_opt, cons_if}
use Rattle.octets.specs.Numbers.{same_integer, next_link_id}
use Rattle.octets.specs.declared.LinkId.{LinkId}
use Rattle.board.proofs.FreeLinkIds.{live_any}

-- ---- a leg and its connection

pub entry_path : {m n : ℕ} {t u : Connection} → m ≡ n → t ≡ u → entry m t ≡ entry n u
entry_path p q = λ i. record { leg = p i; connection = q i }

-- the calls are the entries with a call
pub party_mem : (es : List Entry) {p : Party} → Memᴰ p (calls es) → Memᴰ (entry p.leg (WithUser p.call)) es
party_mem es {p} m = go (filter_map_mem (λ (e : Entry). party_of e.leg e.connection) es m)
  where
    is : (n : ℕ) (t : Connection) → party_of n t ≡ Some p → entry n t ≡ entry p.leg (WithUser p.call)
    is n (WithUser c) h = let d : record { leg = n; call = c } ≡ p = cc in ap (λ (q : Party). entry q.leg (WithUser q.call)) d
    is n (WithPartner q a) h = let z : ◌≡◌ {A = ℕ} 0 1 = cc in absurd (omega arith)

    go : (e : Entry) × Memᴰ e es × (party_of e.leg e.connection ≡ Some p) → Memᴰ (entry p.leg (WithUser p.call)) es
    go r = subst (λ (e : Entry). Memᴰ e es) (is r.0.leg r.0.connection r.2) r.1

pub mem_party : {es : List Entry} {n : ℕ} {c : Call} → Memᴰ (entry n (WithUser c)) es → Memᴰ (record { leg = n; call = c }) (calls es)
mem_party m = mem_filter_map (λ (e : Entry). party_of e.leg e.connection) m refl

-- a joined entry's partner
pub mate_of : {es : List Entry} → Sound es → (n p : ℕ) (a : Bool) → Memᴰ (entry n (WithPartner p a)) es →
    (b : Bool) × Memᴰ (entry p (WithPartner n b)) es × (eqb n p ≡ false) × ((a && b) ≡ false)
mate_of {es} s n p a m = go (any_has (answers_to n p a) es (right (not (eqb n p)) _ h))
  where
    h : (not (eqb n p) && any (answers_to n p a) es) ≡ true
    h = all_at (partnered es) m s.mates

    back : (k : ℕ) (t : Connection) → Memᴰ (entry k t) es → eqb p k ≡ true → joined_back n a t ≡ true →
        (b : Bool) × Memᴰ (entry p (WithPartner n b)) es × (eqb n p ≡ false) × ((a && b) ≡ false)
    back k (WithUser c) m e j = absurd (true_not_false j refl)
    back k (WithPartner q b) m e j = (
      b,
      subst (λ (e : Entry). Memᴰ e es) (entry_path (sym (eqb_eq p k e)) (ap (λ (x : ℕ). WithPartner x b) (sym (eqb_eq n q (left (eqb n q) _ j))))) m,
      is_not (left (not (eqb n p)) _ h),
      is_not (right (eqb n q) _ j),
    )

    go : (f : Entry) × Memᴰ f es × (answers_to n p a f ≡ true) → (b : Bool) × Memᴰ (entry p (WithPartner n b)) es × (eqb n p ≡ false) × ((a && b) ≡ false)
    go r = back r.0.leg r.0.connection r.1 (left (eqb p r.0.leg) _ r.2) (right (eqb p r.0.leg) _ r.2)

pub partner_in_lem : {fs : List Entry} (n p : ℕ) (a b : Bool) → Memᴰ (entry p (WithPartner n b)) fs → eqb n p ≡ false → (a && b) ≡ false → valid_partner fs n (WithPartner p a) ≡ true
partner_in_lem n p a b m e j = both (ap not e) (any_of (answers_to n p a) m (both (eqb_self p) (both (eqb_self n) (ap not j))))

-- ---- Open

no_links : (es : List Entry) → any (λ (f : Entry). false) es ≡ false
no_links es = none_by (λ (f : Entry). false) es (λ x m. refl)

opened_right : (r : ℕ) (d : Direction) → valid_reference r ≡ true → valid_call (opened r d) ≡ true
opened_right r Outgoing h = both (both h refl) refl
opened_right r Incoming h = both (both h refl) refl

wider : (e₀ : Entry) (es : List Entry) (n : ℕ) (t : Connection) → valid_partner es n t ≡ true → valid_partner (e₀ ∷ es) n t ≡ true
wider e₀ es n (WithUser c) h = refl
wider e₀ es n (WithPartner p a) h = both (left (not (eqb n p)) _ h) (or_right (answers_to n p a e₀) (any (answers_to n p a) es) (right (not (eqb n p)) _ h))

enters_sound : (es : List Entry) (l r : ℕ) (d : Direction) → Sound es → valid_reference r ≡ true → any (has_leg l) es ≡ false → any (has_reference r) es ≡ false →
    Sound (entry l (WithUser (opened r d)) ∷ es)
enters_sound es l r d s h x y = record {
  rights = both (opened_right r d h) s.rights;
  legs = both (ap not x) s.legs;
  refs = both (ap not y) s.refs;
  lids = both (ap not (no_links es)) s.lids;
  few = s.few;
  mates = all_by (partnered (new ∷ es)) es (λ e m. wider new es e.leg e.connection (all_at (partnered es) m s.mates));
}
  where
    new : Entry
    new = entry l (WithUser (opened r d))

-- ---- a call changed: Progress, Hold, a new LinkId

module _ (r : ℕ) (f : Call → Call) (same : (c : Call) → (f c).reference.0 ≡ c.reference.0) where
  abbrev changed : Entry → Entry
  changed = map_connection (change_call r f)

  ref_kept : (n : ℕ) (t : Connection) → reference_of (change_call r f n t) ≡ reference_of t
  ref_kept n (WithUser c) = go (eqb r c.reference.0)
    where
      go : (b : Bool) → Some (cond b (f c) c).reference.0 ≡ Some c.reference.0
      go true = ap {B = Option ℕ} Some (same c)
      go false = refl
  ref_kept n (WithPartner p a) = refl

  answers_kept : (n p : ℕ) (a : Bool) (m : ℕ) (t : Connection) → joined_back n a (change_call r f m t) ≡ joined_back n a t
  answers_kept n p a m (WithUser c) = refl
  answers_kept n p a m (WithPartner q b) = refl

  mates_kept : (es : List Entry) (n : ℕ) (t : Connection) → valid_partner (map changed es) n (change_call r f n t) ≡ valid_partner es n t
  mates_kept es n (WithUser c) = refl
  mates_kept es n (WithPartner p a) =
      ap (λ (b : Bool). not (eqb n p) && b)
      (any_map (answers_to n p a) changed es ∙ any_ext (λ (e : Entry). answers_to n p a (changed e)) (answers_to n p a) es
      (λ e. ap (λ (b : Bool). eqb p e.leg && b) (answers_kept n p a e.leg e.connection)))

  pub call_sound : (es : List Entry) → Sound es → ((n : ℕ) (c : Call) → Memᴰ (entry n (WithUser c)) es → eqb r c.reference.0 ≡ true → valid_call (f c) ≡ true) →
      distinct same_link_ids (map changed es) ≡ true → leb (link_ids (map changed es)) most_link_ids ≡ true → Sound (map changed es)
  call_sound es s ok l w = record {
    rights = all_by valid_entry (map changed es) each;
    legs = distinct_map same_legs changed es (λ e g t. t) s.legs;
    refs = distinct_map same_references changed es (λ e g t. sym (ap₂ same_numbers (ref_kept e.leg e.connection) (ref_kept g.leg g.connection)) ∙ t) s.refs;
    lids = l;
    few = w;
    mates = all_map (partnered (map changed es)) changed es ∙ all_ext (λ (e : Entry). partnered (map changed es) (changed e)) (partnered es) es (λ e. mates_kept es e.leg e.connection) ∙ s.mates;
  }
    where
      connection : (n : ℕ) (t : Connection) → Memᴰ (entry n t) es → valid_connection t ≡ true → valid_connection (change_call r f n t) ≡ true
      connection n (WithUser c) m h = go (eqb r c.reference.0) refl
        where
          go : (b : Bool) → eqb r c.reference.0 ≡ b → valid_call (cond b (f c) c) ≡ true
          go true e = ok n c m e
          go false e = h
      connection n (WithPartner p a) m h = refl

      each : (y : Entry) → Memᴰ y (map changed es) → valid_entry y ≡ true
      each y m = go (map_mem changed es m)
        where
          go : (x : Entry) × Memᴰ x es × (y ≡ changed x) → valid_entry y ≡ true
          go q = ap valid_entry q.2 ∙ connection q.0.leg q.0.connection q.1 (all_at valid_entry q.1 s.rights)

  module _ (unlinked : (c : Call) → (f c).link ≡ c.link) where
    link_kept : (n : ℕ) (t : Connection) → link_id_of (change_call r f n t) ≡ link_id_of t
    link_kept n (WithUser c) = go (eqb r c.reference.0)
      where
        go : (b : Bool) → link_id_in (cond b (f c) c).link ≡ link_id_in c.link
        go true = ap link_id_in (unlinked c)
        go false = refl
    link_kept n (WithPartner p a) = refl

    pub plain_sound : (es : List Entry) → Sound es → ((n : ℕ) (c : Call) → Memᴰ (entry n (WithUser c)) es → eqb r c.reference.0 ≡ true → valid_call (f c) ≡ true) → Sound (map changed es)
    plain_sound es s ok =
        call_sound es s ok
        (distinct_map same_link_ids changed es (λ e g t. sym (ap₂ same_link_ids_in (link_kept e.leg e.connection) (link_kept g.leg g.connection)) ∙ t) s.lids)
        (ap (λ (n : ℕ). leb n most_link_ids) (length_filter_of_map linked linked changed es (λ e. ap present (link_kept e.leg e.connection))) ∙ s.few)

-- the named call is the one with the reference
pub the_named : {es : List Entry} → Sound es → (r : ℕ) {p : Party} → named r es ≡ Some p → (n : ℕ) (c : Call) → Memᴰ (entry n (WithUser c)) es → eqb r c.reference.0 ≡ true →
    p ≡ record { leg = n; call = c }
the_named {es} s r {p} e n c m h =
    small_mem (filter (has_party_reference r) (calls es)) (calls_one r s)
    (let u = find_mem (has_party_reference r) (calls es) e in mem_filter (has_party_reference r) u.0 u.1)
    (mem_filter (has_party_reference r) (mem_party m) h)

-- a call that is Idle, or can be held, can be held or is Idle afterwards too
more : (a i : Bool) → (a && (i || false)) ≡ true → (a && (i || true)) ≡ true
more true true h = refl
more true false h = absurd (true_not_false h refl)
more false i h = h

moved_right : (s t : CallState) (d : Direction) (i b : Bool) → may_progress s t ≡ true →
    (b && valid_direction s d && (i || holdable s)) ≡ true → (b && valid_direction t d && (i || holdable t)) ≡ true
moved_right OutgoingCallProceeding OutgoingCallProceeding d i b m h = absurd (true_not_false m refl)
moved_right OutgoingCallProceeding CallDelivered Outgoing i b m h = more (b && true) i h
moved_right OutgoingCallProceeding CallDelivered Incoming i b m h = absurd (true_not_false (right b false (left (b && false) _ h)) refl)
moved_right OutgoingCallProceeding CallReceived d i b m h = absurd (true_not_false m refl)
moved_right OutgoingCallProceeding Active Outgoing i b m h = more (b && true) i h
moved_right OutgoingCallProceeding Active Incoming i b m h = absurd (true_not_false (right b false (left (b && false) _ h)) refl)
moved_right CallDelivered OutgoingCallProceeding d i b m h = absurd (true_not_false m refl)
moved_right CallDelivered CallDelivered d i b m h = absurd (true_not_false m refl)
moved_right CallDelivered CallReceived d i b m h = absurd (true_not_false m refl)
moved_right CallDelivered Active Outgoing i b m h = h
moved_right CallDelivered Active Incoming i b m h = absurd (true_not_false (right b false (left (b && false) _ h)) refl)
moved_right CallReceived OutgoingCallProceeding d i b m h = absurd (true_not_false m refl)
moved_right CallReceived CallDelivered d i b m h = absurd (true_not_false m refl)
moved_right CallReceived CallReceived d i b m h = absurd (true_not_false m refl)
moved_right CallReceived Active Outgoing i b m h = absurd (true_not_false (right b false (left (b && false) _ h)) refl)
moved_right CallReceived Active Incoming i b m h = more (b && true) i h
moved_right Active OutgoingCallProceeding d i b m h = absurd (true_not_false m refl)
moved_right Active CallDelivered d i b m h = absurd (true_not_false m refl)
moved_right Active CallReceived d i b m h = absurd (true_not_false m refl)
moved_right Active Active d i b m h = absurd (true_not_false m refl)

moves_sound : (es : List Entry) → Sound es → (r : ℕ) (s : CallState) {p : Party} → named r es ≡ Some p → may_progress p.call.state s ≡ true →
    Sound (map (map_connection (change_call r (with_state s))) es)
moves_sound es v r s e h = plain_sound r (with_state s) (λ c. refl) (λ c. refl) es v ok
  where
    ok : (n : ℕ) (c : Call) → Memᴰ (entry n (WithUser c)) es → eqb r c.reference.0 ≡ true → valid_call (with_state s c) ≡ true
    ok n c m k =
        moved_right c.state s c.direction (idle c) (valid_reference c.reference.0)
        (ap (λ (q : Party). may_progress q.call.state s) (sym (the_named v r e n c m k)) ∙ h)
        (all_at valid_entry m v.rights)

held_right : (s : CallState) (d : Direction) (i j b : Bool) → holdable s ≡ true → (b && valid_direction s d && (i || holdable s)) ≡ true → (b && valid_direction s d && (j || holdable s)) ≡ true
held_right s d i j b k h = both (left (b && valid_direction s d) _ h) (or_right j (holdable s) k)

holds_sound : (es : List Entry) → Sound es → (r : ℕ) (x : AuxiliaryState) {p : Party} → named r es ≡ Some p → holdable p.call.state ≡ true →
    Sound (map (map_connection (change_call r (with_auxiliary x))) es)
holds_sound es v r x e h = plain_sound r (with_auxiliary x) (λ c. refl) (λ c. refl) es v ok
  where
    ok : (n : ℕ) (c : Call) → Memᴰ (entry n (WithUser c)) es → eqb r c.reference.0 ≡ true → valid_call (with_auxiliary x c) ≡ true
    ok n c m k =
        held_right c.state c.direction (idle c) (idle (with_auxiliary x c)) (valid_reference c.reference.0)
        (ap (λ (q : Party). holdable q.call.state) (sym (the_named v r e n c m k)) ∙ h)
        (all_at valid_entry m v.rights)

-- ---- a new LinkId

abbrev link_id : ℤ → LinkId
link_id z = record { 0 = z }

-- a value that is found is the first one that is not live
pub first_not_live : (n : ℕ) (z : ℤ) (used : List ℤ) {y : ℤ} → free_link_id n z used ≡ Some y → FirstNotLive z used y
first_not_live zero z used {y} e = let z : ◌≡◌ {A = ℕ} 0 1 = cc in absurd (omega arith)
first_not_live (suc n) z used {y} e = go (any (same_integer z) used) refl e (first_not_live n (next_link_id z) used {y = y})
  where
    before : (f : FirstNotLive (next_link_id z) used y) → any (same_integer z) used ≡ true → (m : ℕ) → m < suc f.steps → any (same_integer (upward m z)) used ≡ true
    before f h zero l = h
    before f h (suc m) l = f.live_before m (omega arith)

    go : (b : Bool) → any (same_integer z) used ≡ b → unless_live b z (free_link_id n (next_link_id z) used) ≡ Some y → (free_link_id n (next_link_id z) used ≡ Some y → FirstNotLive (next_link_id z) used y) → FirstNotLive z used y
    go true h e f = let r = f e in record { steps = suc r.steps; reached = r.reached; not_live = r.not_live; live_before = before r h }
    go false h e f = let d : z ≡ y = cc in record { steps = 0; reached = d; not_live = subst (λ (x : ℤ). any (same_integer x) used ≡ false) d h; live_before = λ m l. absurd (omega (arith, l)) }

pub live_length : (es : List Entry) → length (live (calls es)) ≡ link_ids es
live_length [] = refl
live_length (e ∷ es) = go e.leg e.connection (live_length es)
  where
    link : (o : Option ℤ) → length (live (calls es)) ≡ link_ids es → length (cons_opt o (live (calls es))) ≡ length (cons_if (present o) e (filter linked es))
    link None h = h
    link (Some y) h = ap suc h

    go : (n : ℕ) (t : Connection) → length (live (calls es)) ≡ link_ids es → length (live (cons_opt (party_of n t) (calls es))) ≡ length (cons_if (present (link_id_of t)) e (filter linked es))
    go n (WithUser c) h = link (link_id_in c.link) h
    go n (WithPartner p a) h = h

module _ (r : ℕ) (z : ℤ) where
  abbrev given : Entry → Entry
  given = map_connection (change_call r (with_link_id (link_id z)))

  given_link : (n : ℕ) (t : Connection) → link_id_of (change_call r (with_link_id (link_id z)) n t) ≡ cond (is_number r (reference_of t)) (Some z) (link_id_of t)
  given_link n (WithUser c) = go (eqb r c.reference.0)
    where
      go : (b : Bool) → link_id_in (cond b (with_link_id (link_id z) c) c).link ≡ cond b (Some z) (link_id_in c.link)
      go true = refl
      go false = refl
  given_link n (WithPartner p a) = refl

  not_z : (o : Option ℤ) → is_link_id z o ≡ false → same_link_ids_in o (Some z) ≡ false
  not_z None h = refl
  not_z (Some y) h = go (test (same_integer y z))
    where
      go : (same_integer y z ≡ true) ⊎ (same_integer y z ≡ false) → same_integer y z ≡ false
      go (inl t) = absurd (true_not_false (subst (λ (w : ℤ). same_integer z w ≡ true) (sym (same_integer_eq y z t)) (same_integer_self z)) h)
      go (inr t) = t

  given_apart : (a b : Bool) (o u : Option ℤ) → (a && b) ≡ false → is_link_id z o ≡ false → is_link_id z u ≡ false → same_link_ids_in o u ≡ false →
      same_link_ids_in (cond a (Some z) o) (cond b (Some z) u) ≡ false
  given_apart true true o u h x y w = absurd (true_not_false refl h)
  given_apart true false o u h x y w = y
  given_apart false true o u h x y w = not_z o x
  given_apart false false o u h x y w = w

  and_false : (a b : Bool) → (a ≡ true → b ≡ true → ⊥) → (a && b) ≡ false
  and_false true true f = absurd (f refl refl)
  and_false true false f = refl
  and_false false b f = refl

  given_lids : (es : List Entry) → distinct same_references es ≡ true → distinct same_link_ids es ≡ true → any (has_link_id z) es ≡ false → distinct same_link_ids (map given es) ≡ true
  given_lids [] x y w = refl
  given_lids (e ∷ es) x y w = both (ap not (none_by (same_link_ids (given e)) (map given es) away)) (given_lids es (right (not (any (same_references e) es)) _ x) (right (not (any (same_link_ids e) es)) _ y) free.1)
    where
      free : (has_link_id z e ≡ false) × (any (has_link_id z) es ≡ false)
      free = or_false (has_link_id z e) (any (has_link_id z) es) w

      away : (g : Entry) → Memᴰ g (map given es) → same_link_ids (given e) g ≡ false
      away g m = go (map_mem given es m)
        where
          go : (f : Entry) × Memᴰ f es × (g ≡ given f) → same_link_ids (given e) g ≡ false
          go q =
              ap (same_link_ids (given e)) q.2
              ∙ ap₂ same_link_ids_in (given_link e.leg e.connection) (given_link q.0.leg q.0.connection)
              ∙ given_apart (has_reference r e) (has_reference r q.0) (link_id_of e.connection) (link_id_of q.0.connection)
              (and_false (has_reference r e) (has_reference r q.0) (λ a b. true_not_false (is_number_same r (reference_of e.connection) (reference_of q.0.connection) a b) (none_of (same_references e) q.1 (is_not (left (not (any (same_references e) es)) _ x)))))
              free.0
              (none_of (has_link_id z) q.1 free.1)
              (none_of (same_link_ids e) q.1 (is_not (left (not (any (same_link_ids e) es)) _ y)))

  given_linked : (e : Entry) → linked (given e) ≡ true → (linked e || has_reference r e) ≡ true
  given_linked e h = go (has_reference r e) (link_id_of e.connection) (sym (ap present (given_link e.leg e.connection)) ∙ h)
    where
      go : (b : Bool) (o : Option ℤ) → present (cond b (Some z) o) ≡ true → (present o || b) ≡ true
      go true o t = or_right (present o) true refl
      go false o t = or_left (present o) false t

  pub gives_sound : (es : List Entry) → Sound es → leb most_link_ids (length (live (calls es))) ≡ false → any (same_integer z) (live (calls es)) ≡ false → Sound (map given es)
  gives_sound es s few free =
      call_sound r (with_link_id (link_id z)) (λ c. refl) es s (λ n c m k. all_at valid_entry m s.rights)
      (given_lids es s.refs s.lids (sym (live_any z es) ∙ free))
      (is_true (leb (link_ids (map given es)) most_link_ids) (le→leb (link_ids (map given es)) most_link_ids (le_trans (filter_map_le linked linked (has_reference r) given es given_linked) bound)))
    where
      below : link_ids es < most_link_ids
      below = nleb→lt most_link_ids (link_ids es) (from_true (ap (λ (n : ℕ). not (leb most_link_ids n)) (sym (live_length es)) ∙ ap not few))

      bound : link_ids es + length (filter (has_reference r) es) ≤ most_link_ids
      bound = let one : length (filter (has_reference r) es) ≤ 1 = refs_one r s in omega (arith, below)

-- ---- Release

-- the entry f is neither the released one nor its partner's
abbrev pub remains : Entry → Entry → Bool
remains e f = not (eqb f.leg e.leg || is_partner f.leg e.connection)

pub released : (n : ℕ) (t : Connection) (es : List Entry) → entries_after (Some (Apply (release_of n t))) es ≡ filter (remains (entry n t)) es
unfolding entries_after
released n (WithUser c) es = refl
released n (WithPartner p a) es = refl

module _ (es : List Entry) (s : Sound es) (e₀ : Entry) (here : Memᴰ e₀ es) where
  -- a leg whose partner is struck is struck itself
  stays_with : (n p : ℕ) (a b : Bool) → Memᴰ (entry n (WithPartner p a)) es → Memᴰ (entry p (WithPartner n b)) es → remains e₀ (entry n (WithPartner p a)) ≡ true → remains e₀ (entry p (WithPartner n b)) ≡ true
  stays_with n p a b m w h = go (test (eqb p e₀.leg)) (test (is_partner p e₀.connection))
    where
      out : (eqb n e₀.leg ≡ false) × (is_partner n e₀.connection ≡ false)
      out = or_false (eqb n e₀.leg) (is_partner n e₀.connection) (is_not h)

      own : eqb p e₀.leg ≡ true → ⊥
      own t =
          true_not_false
          (ap (is_partner n) (ap (λ (x : Entry). x.connection) (one_leg s p here w t (eqb_self p))) ∙ eqb_self n)
          out.1

      other : (k : ℕ) (t : Connection) → Memᴰ (entry k t) es → is_partner p t ≡ true → eqb n k ≡ false → ⊥
      other k (WithUser c) i j u = true_not_false j refl
      other k (WithPartner q c) i j u = back (mate_of s k q c i)
        where
          back : (d : Bool) × Memᴰ (entry q (WithPartner k d)) es × (eqb k q ≡ false) × ((c && d) ≡ false) → ⊥
          back r =
              let pq : p ≡ q = eqb_eq p q j in
              let same : entry p (WithPartner n b) ≡ entry q (WithPartner k r.0) = one_leg s p w r.1 (eqb_self p) (eqb_of p q pq) in
              let tied : WithPartner n b ≡ WithPartner k r.0 = ap (λ (x : Entry). x.connection) same in
              let nk : n ≡ k = cc in
              true_not_false (eqb_of n k nk) u

      go : (eqb p e₀.leg ≡ true) ⊎ (eqb p e₀.leg ≡ false) → (is_partner p e₀.connection ≡ true) ⊎ (is_partner p e₀.connection ≡ false) → remains e₀ (entry p (WithPartner n b)) ≡ true
      go (inl t) y = absurd (own t)
      go (inr t) (inl u) = absurd (other e₀.leg e₀.connection here u out.0)
      go (inr t) (inr u) = ap not (neither t u)

  strikes_sound : Sound (filter (remains e₀) es)
  strikes_sound = record {
    rights = all_by valid_entry (filter (remains e₀) es) (λ x m. all_at valid_entry (filter_mem (remains e₀) es m).0 s.rights);
    legs = distinct_filter same_legs (remains e₀) es s.legs;
    refs = distinct_filter same_references (remains e₀) es s.refs;
    lids = distinct_filter same_link_ids (remains e₀) es s.lids;
    few = is_true (leb (link_ids (filter (remains e₀) es)) most_link_ids) (le→leb _ most_link_ids (le_trans (filter_filter_le linked (remains e₀) es) (leb→le (link_ids es) most_link_ids (from_true s.few))));
    mates = all_by (partnered (filter (remains e₀) es)) (filter (remains e₀) es) (λ x m. let r = filter_mem (remains e₀) es m in connection x.leg x.connection r.0 r.1);
  }
    where
      connection : (n : ℕ) (t : Connection) → Memᴰ (entry n t) es → remains e₀ (entry n t) ≡ true → valid_partner (filter (remains e₀) es) n t ≡ true
      connection n (WithUser c) m h = refl
      connection n (WithPartner p a) m h = go (mate_of s n p a m)
        where
          go : (b : Bool) × Memᴰ (entry p (WithPartner n b)) es × (eqb n p ≡ false) × ((a && b) ≡ false) → valid_partner (filter (remains e₀) es) n (WithPartner p a) ≡ true
          go r = partner_in_lem n p a r.0 (mem_filter (remains e₀) r.1 (stays_with n p a r.0 m r.1 h)) r.2 r.3

-- ---- Answer

quiet : (a u b v : Bool) → (a && b) ≡ false → ((a && u) && (b && v)) ≡ false
quiet true u true v h = absurd (true_not_false refl h)
quiet true true false v h = refl
quiet true false false v h = refl
quiet false u b v h = refl

module _ (l : ℕ) (es : List Entry) (s : Sound es) where
  abbrev stopped : Entry → Entry
  stopped = map_connection (end_alerting l)

  stopped_ref : (n : ℕ) (t : Connection) → reference_of (end_alerting l n t) ≡ reference_of t
  stopped_ref n (WithUser c) = refl
  stopped_ref n (WithPartner p a) = refl

  stopped_link : (n : ℕ) (t : Connection) → link_id_of (end_alerting l n t) ≡ link_id_of t
  stopped_link n (WithUser c) = refl
  stopped_link n (WithPartner p a) = refl

  stopped_right : (n : ℕ) (t : Connection) → valid_connection (end_alerting l n t) ≡ valid_connection t
  stopped_right n (WithUser c) = refl
  stopped_right n (WithPartner p a) = refl

  stops_sound : Sound (map stopped es)
  stops_sound = record {
    rights = all_map valid_entry stopped es ∙ all_ext (λ (e : Entry). valid_entry (stopped e)) valid_entry es (λ e. stopped_right e.leg e.connection) ∙ s.rights;
    legs = distinct_map same_legs stopped es (λ e g t. t) s.legs;
    refs = distinct_map same_references stopped es (λ e g t. sym (ap₂ same_numbers (stopped_ref e.leg e.connection) (stopped_ref g.leg g.connection)) ∙ t) s.refs;
    lids = distinct_map same_link_ids stopped es (λ e g t. sym (ap₂ same_link_ids_in (stopped_link e.leg e.connection) (stopped_link g.leg g.connection)) ∙ t) s.lids;
    few = ap (λ (n : ℕ). leb n most_link_ids) (length_filter_of_map linked linked stopped es (λ e. ap present (stopped_link e.leg e.connection))) ∙ s.few;
    mates = all_map (partnered (map stopped es)) stopped es ∙ all_by (λ (e : Entry). partnered (map stopped es) (stopped e)) es (λ e m. connection e.leg e.connection m);
  }
    where
      connection : (n : ℕ) (t : Connection) → Memᴰ (entry n t) es → valid_partner (map stopped es) n (end_alerting l n t) ≡ true
      connection n (WithUser c) m = refl
      connection n (WithPartner p a) m = go (mate_of s n p a m)
        where
          go : (b : Bool) × Memᴰ (entry p (WithPartner n b)) es × (eqb n p ≡ false) × ((a && b) ≡ false) → valid_partner (map stopped es) n (WithPartner p (a && not (eqb l n))) ≡ true
          go r = partner_in_lem n p (a && not (eqb l n)) (r.0 && not (eqb l p)) (mem_map stopped r.1) r.2 (quiet a (not (eqb l n)) r.0 (not (eqb l p)) r.3)

-- ---- a transfer

module _ (es : List Entry) (s : Sound es) (p q : Party) (mp : Memᴰ p (calls es)) (mq : Memᴰ q (calls es)) (apart : eqb p.leg q.leg ≡ false) (ring : (delivered p.call && delivered q.call) ≡ false) where
  abbrev tied : Entry → Entry
  tied = map_connection (join_legs p.leg q.leg)

  -- a connection is left as it was, or is a partner
  tied_is : (n : ℕ) (t : Connection) → ((m : ℕ) × (a : Bool) × (join_legs p.leg q.leg n t ≡ WithPartner m a)) ⊎ (join_legs p.leg q.leg n t ≡ t)
  tied_is n (WithUser c) = go (eqb p.leg n) (eqb q.leg n)
    where
      go : (x y : Bool) → ((m : ℕ) × (a : Bool) × (cond x (WithPartner q.leg (delivered c)) (cond y (WithPartner p.leg (delivered c)) (WithUser c)) ≡ WithPartner m a)) ⊎ (cond x (WithPartner q.leg (delivered c)) (cond y (WithPartner p.leg (delivered c)) (WithUser c)) ≡ WithUser c)
      go true y = inl (q.leg, delivered c, refl)
      go false true = inl (p.leg, delivered c, refl)
      go false false = inr refl
  tied_is n (WithPartner m a) = inr refl

  none_number : (o : Option ℕ) → same_numbers o None ≡ true → ⊥
  none_number None h = true_not_false h refl
  none_number (Some n) h = true_not_false h refl

  none_link : (o : Option ℤ) → same_link_ids_in o None ≡ true → ⊥
  none_link None h = true_not_false h refl
  none_link (Some n) h = true_not_false h refl

  tied_refs : (e f : Entry) → same_references (tied e) (tied f) ≡ true → same_references e f ≡ true
  tied_refs e f h = go (tied_is e.leg e.connection) (tied_is f.leg f.connection)
    where
      go : ((m : ℕ) × (a : Bool) × (join_legs p.leg q.leg e.leg e.connection ≡ WithPartner m a)) ⊎ (join_legs p.leg q.leg e.leg e.connection ≡ e.connection) →
          ((m : ℕ) × (a : Bool) × (join_legs p.leg q.leg f.leg f.connection ≡ WithPartner m a)) ⊎ (join_legs p.leg q.leg f.leg f.connection ≡ f.connection) → same_references e f ≡ true
      go (inl x) y = absurd (true_not_false h (ap (λ (t : Connection). same_numbers (reference_of t) (reference_of (tied f).connection)) x.2))
      go (inr x) (inl y) = absurd (none_number (reference_of (tied e).connection) (sym (ap (λ (t : Connection). same_numbers (reference_of (tied e).connection) (reference_of t)) y.2) ∙ h))
      go (inr x) (inr y) = sym (ap₂ (λ (t u : Connection). same_numbers (reference_of t) (reference_of u)) x y) ∙ h

  tied_lids : (e f : Entry) → same_link_ids (tied e) (tied f) ≡ true → same_link_ids e f ≡ true
  tied_lids e f h = go (tied_is e.leg e.connection) (tied_is f.leg f.connection)
    where
      go : ((m : ℕ) × (a : Bool) × (join_legs p.leg q.leg e.leg e.connection ≡ WithPartner m a)) ⊎ (join_legs p.leg q.leg e.leg e.connection ≡ e.connection) →
          ((m : ℕ) × (a : Bool) × (join_legs p.leg q.leg f.leg f.connection ≡ WithPartner m a)) ⊎ (join_legs p.leg q.leg f.leg f.connection ≡ f.connection) → same_link_ids e f ≡ true
      go (inl x) y = absurd (true_not_false h (ap (λ (t : Connection). same_link_ids_in (link_id_of t) (link_id_of (tied f).connection)) x.2))
      go (inr x) (inl y) = absurd (none_link (link_id_of (tied e).connection) (sym (ap (λ (t : Connection). same_link_ids_in (link_id_of (tied e).connection) (link_id_of t)) y.2) ∙ h))
      go (inr x) (inr y) = sym (ap₂ (λ (t u : Connection). same_link_ids_in (link_id_of t) (link_id_of u)) x y) ∙ h

  tied_linked : (e : Entry) → linked (tied e) ≡ true → (linked e || false) ≡ true
  tied_linked e h = go (tied_is e.leg e.connection)
    where
      go : ((m : ℕ) × (a : Bool) × (join_legs p.leg q.leg e.leg e.connection ≡ WithPartner m a)) ⊎ (join_legs p.leg q.leg e.leg e.connection ≡ e.connection) → (linked e || false) ≡ true
      go (inl x) = absurd (true_not_false h (ap (λ (t : Connection). present (link_id_of t)) x.2))
      go (inr x) = or_left (linked e) false (sym (ap (λ (t : Connection). present (link_id_of t)) x) ∙ h)

  tied_right : (e : Entry) → valid_entry e ≡ true → valid_entry (tied e) ≡ true
  tied_right e h = go (tied_is e.leg e.connection)
    where
      go : ((m : ℕ) × (a : Bool) × (join_legs p.leg q.leg e.leg e.connection ≡ WithPartner m a)) ⊎ (join_legs p.leg q.leg e.leg e.connection ≡ e.connection) → valid_entry (tied e) ≡ true
      go (inl x) = ap valid_connection x.2
      go (inr x) = ap valid_connection x ∙ h

  at_p : Memᴰ (entry p.leg (WithPartner q.leg (delivered p.call))) (map tied es)
  at_p = subst (λ (e : Entry). Memᴰ e (map tied es)) (entry_path refl (ap (λ (b : Bool). cond b (WithPartner q.leg (delivered p.call)) (cond (eqb q.leg p.leg) (WithPartner p.leg (delivered p.call)) (WithUser p.call))) (eqb_self p.leg))) (mem_map tied (party_mem es mp))

  at_q : Memᴰ (entry q.leg (WithPartner p.leg (delivered q.call))) (map tied es)
  at_q = subst (λ (e : Entry). Memᴰ e (map tied es)) (entry_path refl (ap₂ (λ (a b : Bool). cond a (WithPartner q.leg (delivered q.call)) (cond b (WithPartner p.leg (delivered q.call)) (WithUser q.call))) apart (eqb_self q.leg))) (mem_map tied (party_mem es mq))

  transfers_sound : Sound (map tied es)
  transfers_sound = record {
    rights = all_map valid_entry tied es ∙ all_by (λ (e : Entry). valid_entry (tied e)) es (λ e m. tied_right e (all_at valid_entry m s.rights));
    legs = distinct_map same_legs tied es (λ e g t. t) s.legs;
    refs = distinct_map same_references tied es tied_refs s.refs;
    lids = distinct_map same_link_ids tied es tied_lids s.lids;
    few = is_true (leb (link_ids (map tied es)) most_link_ids) (le→leb _ most_link_ids (le_trans (filter_map_le linked linked (λ (e : Entry). false) tied es tied_linked) bound));
    mates = all_map (partnered (map tied es)) tied es ∙ all_by (λ (e : Entry). partnered (map tied es) (tied e)) es (λ e m. connection e.leg e.connection m);
  }
    where
      bound : link_ids es + length (filter (λ (e : Entry). false) es) ≤ most_link_ids
      bound =
          let none_kept : length (filter (λ (e : Entry). false) es) ≡ 0 = ap length (filter_none (λ (e : Entry). false) es (no_links es)) in
          let h : link_ids es ≤ most_link_ids = leb→le (link_ids es) most_link_ids (from_true s.few) in
          omega arith

      connection : (n : ℕ) (t : Connection) → Memᴰ (entry n t) es → valid_partner (map tied es) n (join_legs p.leg q.leg n t) ≡ true
      connection n (WithPartner m a) i = go (mate_of s n m a i)
        where
          go : (b : Bool) × Memᴰ (entry m (WithPartner n b)) es × (eqb n m ≡ false) × ((a && b) ≡ false) → valid_partner (map tied es) n (WithPartner m a) ≡ true
          go r = partner_in_lem n m a r.0 (mem_map tied r.1) r.2 r.3
      connection n (WithUser c) i = go (eqb p.leg n) (eqb q.leg n) refl refl
        where
          go : (x y : Bool) → eqb p.leg n ≡ x → eqb q.leg n ≡ y → valid_partner (map tied es) n (cond x (WithPartner q.leg (delivered c)) (cond y (WithPartner p.leg (delivered c)) (WithUser c))) ≡ true
          go true y h k =
              let pn : p.leg ≡ n = eqb_eq p.leg n h in
              let same : entry p.leg (WithUser p.call) ≡ entry n (WithUser c) = one_leg s n (party_mem es mp) i (eqb_of n p.leg (sym pn)) (eqb_self n) in
              let connections : WithUser p.call ≡ WithUser c = ap (λ (x : Entry). x.connection) same in
              let pc : p.call ≡ c = cc in
              subst (λ (d : Call). valid_partner (map tied es) n (WithPartner q.leg (delivered d)) ≡ true) pc
              (subst (λ (m : ℕ). valid_partner (map tied es) m (WithPartner q.leg (delivered p.call)) ≡ true) pn
              (partner_in_lem p.leg q.leg (delivered p.call) (delivered q.call) at_q apart ring))
          go false true h k =
              let qn : q.leg ≡ n = eqb_eq q.leg n k in
              let same : entry q.leg (WithUser q.call) ≡ entry n (WithUser c) = one_leg s n (party_mem es mq) i (eqb_of n q.leg (sym qn)) (eqb_self n) in
              let connections : WithUser q.call ≡ WithUser c = ap (λ (x : Entry). x.connection) same in
              let qc : q.call ≡ c = cc in
              subst (λ (d : Call). valid_partner (map tied es) n (WithPartner p.leg (delivered d)) ≡ true) qc
              (subst (λ (m : ℕ). valid_partner (map tied es) m (WithPartner p.leg (delivered q.call)) ≡ true) qn
              (partner_in_lem q.leg p.leg (delivered q.call) (delivered p.call) at_p (eqb_sym q.leg p.leg ∙ apart) (and_comm (delivered q.call) (delivered p.call) ∙ ring)))
          go false false h k = refl

-- ---- calls that pair

ringing : (s : CallState) → same_state s CallDelivered ≡ true → same_state s Active ≡ false
ringing OutgoingCallProceeding h = absurd (true_not_false h refl)
ringing CallDelivered h = refl
ringing CallReceived h = absurd (true_not_false h refl)
ringing Active h = absurd (true_not_false h refl)

no_verdict : (h ac ad dc dd oc od : Bool) → ac ≡ false → ad ≡ false → ◌≡◌ {A = ℕ} (cond h (cond (ac && ad) 1 (cond ((ac && dd && od) || (ad && dc && oc)) 2 0)) 0) 0
no_verdict h true ad dc dd oc od x y = absurd (true_not_false refl x)
no_verdict h false true dc dd oc od x y = absurd (true_not_false refl y)
no_verdict true false false dc dd oc od x y = refl
no_verdict false false false dc dd oc od x y = refl

-- "never both Delivered", by either rule set
pub both_delivered : (r : RuleSet) (c d : Call) → (delivered c && delivered d) ≡ true → verdict r c d ≡ 0
both_delivered r c d t =
    no_verdict (auxiliaries_pair r c d) (active c) (active d) (delivered c) (delivered d) (outgoing c) (outgoing d)
    (ringing c.state (left (delivered c) (delivered d) t)) (ringing d.state (right (delivered c) (delivered d) t))

-- two calls that pair are not both Delivered
pub not_both_ring : (opt : Options) (c d : Call) → calls_pair opt c d ≡ true → (delivered c && delivered d) ≡ false
unfolding calls_pair
not_both_ring opt c d h = go (test (delivered c && delivered d))
  where
    go : ((delivered c && delivered d) ≡ true) ⊎ ((delivered c && delivered d) ≡ false) → (delivered c && delivered d) ≡ false
    go (inl t) = absurd (true_not_false h (ap (λ (v : ℕ). eqb v 1 || (eqb v 2 && alerting_allowed opt)) (both_delivered (rule_set opt) c d t)))
    go (inr t) = t

-- two calls of different references have different legs
pub other_leg : {es : List Entry} → Sound es → {p q : Party} → Memᴰ p (calls es) → Memᴰ q (calls es) → same_call p q ≡ false → eqb p.leg q.leg ≡ false
other_leg {es} s {p} {q} mp mq h = go (test (eqb p.leg q.leg))
  where
    go : (eqb p.leg q.leg ≡ true) ⊎ (eqb p.leg q.leg ≡ false) → eqb p.leg q.leg ≡ false
    go (inl t) =
        let same : entry p.leg (WithUser p.call) ≡ entry q.leg (WithUser q.call) = one_leg s p.leg (party_mem es mp) (party_mem es mq) (eqb_self p.leg) t in
        let connections : WithUser p.call ≡ WithUser q.call = ap (λ (x : Entry). x.connection) same in
        let calls_are : p.call ≡ q.call = cc in
        absurd (true_not_false (eqb_of p.call.reference.0 q.call.reference.0 (ap (λ (c : Call). c.reference.0) calls_are)) h)
    go (inr t) = t

pub pair_sound : (es : List Entry) → Sound es → (opt : Options) (p q : Party) → Memᴰ p (calls es) → Memᴰ q (calls es) → partner_for opt p q ≡ true →
    Sound (map (map_connection (join_legs p.leg q.leg)) es)
pair_sound es s opt p q mp mq h =
    transfers_sound es s p q mp mq
    (other_leg s mp mq (is_not (left (not (same_call p q)) _ h)))
    (not_both_ring opt p.call q.call (right (not (same_call p q)) _ h))

-- ---- whatever is decided

kept_by : {opt : Options} {z : ℤ} {w : Bool} {q : Request} {d : Decision} (es : List Entry) → Sound es → in_range q ≡ true → Decided opt z w es q d → Sound (entries_after (change_of d) es)
unfolding entries_after
kept_by es s k (refuses c) = s
kept_by es s k (changes_nothing f g h) = s
kept_by es s k (opens_leg_lem {r = r} {l = l} {d = d} e f g) = enters_sound es l r d s (left (valid_reference r) _ k) e f
kept_by es s k (sets_state {r = r} {s = t} e h) = moves_sound es s r t e h
kept_by es s k (sets_auxiliary {r = r} {a = x} {p = p} e h) = holds_sound es s r x e (left (holdable p.call.state) _ h)
kept_by es s k (releases {e = e} m h) = subst⁻¹ Sound (released e.leg e.connection es) (strikes_sound es s e m)
kept_by {z} es s k (assigns_link_id {p = p} i m e h) = gives_sound p.call.reference.0 _ es s h (first_not_live most_link_ids z (live (calls es)) e).not_live
kept_by {opt} es s k (transfers {p = p} {o = q} i m n h) = pair_sound es s opt p q m n h
kept_by es s k (ends_alerting {l = l}) = stops_sound l es s

pub kept : (opt : Options) (z : ℤ) (w : Bool) (es : List Entry) (q : Request) → Sound es → in_range q ≡ true → Sound (entries_after (change_of (decide opt z w es q)) es)
kept opt z w es q s k = kept_by es s k (decided opt z w es q)
