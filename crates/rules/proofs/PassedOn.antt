-- A Leg facility: accepted exactly when the checks are passed, then passed on to the partner; the board stays, and nobody is moved.
use Rattle.std.specs.Prelude.{None, Option, Some}
use Prim.Native.Nat.{ℕ, ◌<◌}
use native.Mathlib.Omega.{arith}
use borrow.Author.Tests.{ltb-true, ltb-false, eqb-true, eqb-false, eq-eqb}
use mathlib.Core.Path.{◌≡◌, refl, sym, ap, ◌∙◌}
use mathlib.Core.Bool.{Bool, true, false, not, cond}
use mathlib.Core.List.{List, [], ◌∷◌, ◌++◌, append-nil}
use lib.Dec.{eqb, ltb, T}
use lib.Seq.{drop-cons}
use lib.ListN.{length, take, drop, length-drop}
use Rattle.octets.proofs.Lists.{true_not_false, right, is_true, from_true, is_not, find_mem, any_of, both}
use Rattle.octets.specs.Numbers.{four}
use Rattle.subaddresses.specs.SubaddressTransfer.{is_subaddress_transfer}
use Rattle.board.specs.declared.Board.{Board}
use Rattle.board.specs.declared.Call.{Call}
use Rattle.board.specs.declared.Connection.{Connection}
use Rattle.board.specs.declared.Connection.TheVariants.{WithUser, WithPartner}
use Rattle.board.specs.declared.Entry.{Entry}
use Rattle.board.specs.Changes.{full}
use Rattle.board.specs.Entries.{entry, taken, has_leg}
use Rattle.board.specs.Soundness.{sound}
use Rattle.events.specs.declared.Refusal.TheVariants as refusal
use Rattle.events.specs.Refusals.{refusal_number}
use Rattle.events.specs.EventRecords.{Request, Malformed, LegFacility, request, in_range, valid_component}
use Rattle.rules.specs.Book.{Book}
use Rattle.rules.specs.Checks.{Refuse, Accept, decide, decide_passing, decide_leg_facility, entry_at, change_of}
use Rattle.rules.specs.History.{on_board, HasRow}
use Rattle.rules.specs.SingleEvents.{MovesNobody}
use Rattle.rules.specs.PassedOn.{leg_in, count_in, component_in, Judged, PassedOn}
use Rattle.rules.proofs.SingleEvents.{row_entry_lem, entry_row, Still, malformed_still, either_still, still_moves_nobody}
use Rattle.rules.specs.Replies.{octets, passed_on_record, number_at}
use Rattle.rules.specs.Step.{Outcome, step, step_tested, decision, refused, done, board_after, rows_after, candidate_after, replies}

-- ---- what is decided

-- what the record asks for, by the tests of its length and of its fields
abbrev asked : List ℕ → Bool → Bool → Request
asked body long good = cond long (cond good (LegFacility (leg_in body) (count_in body) (drop 5 body)) (Malformed refusal.FieldOutOfRange)) (Malformed refusal.WrongLength)

module _ (b : Board) (body : List ℕ) (room : ℕ) where
  Holds : Outcome → Type 0
  Holds o = PassedOn b body room o.returned o.board (octets o.replies)

  -- checks 1 to 5 refuse it
  not_judged : (n : ℕ) → 0 < n → (Judged b body room → ⊥) → Holds (refused n b)
  unfolding octets Holds
  not_judged n p h = record {
    accepted = (λ e. absurd (omega (arith, p, e)), λ j. absurd (h j.0));
    passed = λ q j. absurd (h j);
    no_such_leg = λ j. absurd (h j);
    with_user = λ j. absurd (h j);
    no_such_invoke = λ j. absurd (h j);
    refused = λ e. refl;
    board_stays = refl;
  }

  -- 10
  absent : entry_at (leg_in body) (taken b.rows) ≡ None → Holds (refused 10 b)
  unfolding octets Holds
  absent h = record {
    accepted = (λ e. absurd (omega (arith, e)), λ j. absurd (no_row j.1.1.joined));
    passed = λ q j k. absurd (no_row k.joined);
    no_such_leg = λ j o. refl;
    with_user = λ j c r. absurd (no_row r);
    no_such_invoke = λ j p a r. absurd (no_row r);
    refused = λ e. refl;
    board_stays = refl;
  }
    where
      no_row : {t : Connection} → HasRow b (leg_in body) t → ⊥
      no_row {t} r = let q : None ≡ Some (entry (leg_in body) t) = sym h ∙ row_entry_lem b (leg_in body) t r in let z : ◌≡◌ {A = ℕ} 0 1 = cc in omega arith

  -- the leg's row, the only one of the leg, has this connection
  module _ (t : Connection) (r : HasRow b (leg_in body) t) where
    only_one : (u : Connection) → HasRow b (leg_in body) u → t ≡ u
    only_one u s =
        let e : entry (leg_in body) t ∷ [] ≡ entry (leg_in body) u ∷ [] = sym r ∙ s in
        let f : entry (leg_in body) t ≡ entry (leg_in body) u = cc in
        ap (λ (x : Entry). x.connection) f

    there : T (not (on_board b (leg_in body))) → ⊥
    there o =
        let m = find_mem (has_leg (leg_in body)) (taken b.rows) (row_entry_lem b (leg_in body) t r) in
        true_not_false (any_of (has_leg (leg_in body)) m.0 m.1) (is_not (is_true _ o))

  user_no_partner : {c : Call} {p : ℕ} {a : Bool} → WithUser c ≡ WithPartner p a → ⊥
  user_no_partner e = let z : ◌≡◌ {A = ℕ} 0 1 = cc in omega arith

  -- 11
  served : (c : Call) → HasRow b (leg_in body) (WithUser c) → Holds (refused 11 b)
  unfolding octets Holds
  served c r = record {
    accepted = (λ e. absurd (omega (arith, e)), λ j. absurd (user_no_partner (only_one (WithUser c) r _ j.1.1.joined)));
    passed = λ q j k. absurd (user_no_partner (only_one (WithUser c) r _ k.joined));
    no_such_leg = λ j o. absurd (there (WithUser c) r o);
    with_user = λ j d s. refl;
    no_such_invoke = λ j p a s. absurd (user_no_partner (only_one (WithUser c) r _ s));
    refused = λ e. refl;
    board_stays = refl;
  }

  module _ (p : ℕ) (a : Bool) (r : HasRow b (leg_in body) (WithPartner p a)) where
    -- 12
    other_component : is_subaddress_transfer (component_in body) ≡ false → Holds (refused 12 b)
    unfolding octets Holds
    other_component f = record {
      accepted = (λ e. absurd (omega (arith, e)), λ j. absurd (true_not_false (is_true _ j.1.1.invoke) f));
      passed = λ q j k. absurd (true_not_false (is_true _ k.invoke) f);
      no_such_leg = λ j o. absurd (there (WithPartner p a) r o);
      with_user = λ j d s. absurd (user_no_partner (sym (only_one (WithPartner p a) r _ s)));
      no_such_invoke = λ j q c s t. refl;
      refused = λ e. refl;
      board_stays = refl;
    }

    -- count, component and zeros are the event's
    layout : (q : ℕ) (c : Bool) → length body ≡ 69 → HasRow b (leg_in body) (WithPartner q c) → octets (passed_on_record p (count_in body) (drop 5 body) (number_at b.rows)) ≡ 0x85 ∷ (four q ++ drop 4 body)
    unfolding octets
    layout q c l s =
        let e : WithPartner p a ≡ WithPartner q c = only_one (WithPartner p a) r _ s in
        let f : p ≡ q = cc in
        append-nil (0x85 ∷ (four p ++ (count_in body ∷ drop 5 body)))
        ∙ ap (λ (x : List ℕ). 0x85 ∷ (four p ++ x)) (sym (drop-cons body 4 0 (omega (arith, l))))
        ∙ ap (λ (x : ℕ). 0x85 ∷ (four x ++ drop 4 body)) f

    passing : Judged b body room → is_subaddress_transfer (component_in body) ≡ true → Holds (done b (Accept None (passed_on_record p (count_in body) (drop 5 body))))
    unfolding Holds board_after rows_after candidate_after replies
    passing j t = record {
      accepted = (λ e. (j, (p, record { alerts = a; joined = r; invoke = from_true t })), λ k. refl);
      passed = λ q k m. layout q m.alerts j.long m.joined;
      no_such_leg = λ k o. absurd (there (WithPartner p a) r o);
      with_user = λ k d s. absurd (user_no_partner (sym (only_one (WithPartner p a) r _ s)));
      no_such_invoke = λ k q c s f. absurd (true_not_false t (is_not (is_true _ f)));
      refused = λ e. absurd (e refl);
      board_stays = refl;
    }

  connected : Judged b body room → (t : Connection) → HasRow b (leg_in body) t → Holds (done b (decide_passing (count_in body) (drop 5 body) t))
  unfolding board_after rows_after candidate_after replies
  connected j (WithUser c) r = served c r
  connected j (WithPartner p a) r = go (is_subaddress_transfer (component_in body)) refl
    where
      go : (x : Bool) → is_subaddress_transfer (component_in body) ≡ x → Holds (done b (cond x (Accept None (passed_on_record p (count_in body) (drop 5 body))) (Refuse refusal.NoSuchInvoke)))
      go true t = passing p a r j t
      go false t = other_component p a r t

  entered : Judged b body room → (o : Option Entry) → entry_at (leg_in body) (taken b.rows) ≡ o → Holds (done b (decide_leg_facility (count_in body) (drop 5 body) o))
  unfolding board_after rows_after candidate_after replies
  entered j None e = absent e
  entered j (Some x) e = connected j x.connection (entry_row b (leg_in body) (is_true _ j.sound_board) e)

  ranged_is : Judged b body room → in_range (LegFacility (leg_in body) (count_in body) (drop 5 body)) ≡ true
  ranged_is j = both (eq-eqb (length (drop 5 body)) 64 (omega (arith, length-drop 5 body, j.long))) (is_true _ j.is_in_range)

  pub rules_pass_on : PassedOn b body room (step b (7 ∷ body) room).returned (step b (7 ∷ body) room).board (octets (step b (7 ∷ body) room).replies)
  unfolding step step_tested decision request decide Holds board_after rows_after candidate_after replies
  rules_pass_on = go (ltb room 128) (sound b) (eqb (length body) 69) (in_range (LegFacility (leg_in body) (count_in body) (drop 5 body))) refl refl refl refl
    where
      go : (x y z w : Bool) → ltb room 128 ≡ x → sound b ≡ y → eqb (length body) 69 ≡ z → in_range (LegFacility (leg_in body) (count_in body) (drop 5 body)) ≡ w →
          Holds (cond {A = Outcome} x (refused (refusal_number refusal.BufferTooSmall) b)
          (cond y (done b (decide b.options b.candidate.0 (full b.rows) (taken b.rows) (asked body z w))) (refused (refusal_number refusal.UnsoundBoard) b)))
      go true y z w e f g h = not_judged 1 (omega arith) (λ j. let u = ltb-true room 128 e in omega (arith, u, j.enough))
      go false false z w e f g h = not_judged 2 (omega arith) (λ j. true_not_false (is_true _ j.sound_board) f)
      go false true false w e f g h = not_judged 3 (omega arith) (λ j. eqb-false (length body) 69 g j.long)
      go false true true false e f g h = not_judged 5 (omega arith) (λ j. true_not_false (ranged_is j) h)
      go false true true true e f g h =
          entered (record { enough = ltb-false room 128 e; sound_board = from_true f; long = eqb-true (length body) 69 g; is_in_range = from_true (right (eqb (length (drop 5 body)) 64) (valid_component 64 (count_in body) (drop 5 body)) h) })
          (entry_at (leg_in body) (taken b.rows)) refl

-- ---- nobody is opened, ended or joined

leg_facility_still : (l n : ℕ) (c : List ℕ) → Still (LegFacility l n c)
unfolding decide
leg_facility_still l n c = record { changes_none = λ o z full es. entered_none (entry_at l es); opens_none = λ m. refl; ends_none = λ es m. refl }
  where
    either : (p : ℕ) (x : Bool) → change_of (cond x (Accept None (passed_on_record p n c)) (Refuse refusal.NoSuchInvoke)) ≡ None
    either p true = refl
    either p false = refl

    connected_none : (t : Connection) → change_of (decide_passing n c t) ≡ None
    connected_none (WithUser call) = refl
    connected_none (WithPartner p a) = either p (is_subaddress_transfer (take n c))

    entered_none : (o : Option Entry) → change_of (decide_leg_facility n c o) ≡ None
    entered_none None = refl
    entered_none (Some e) = connected_none e.connection

pub moves_nobody : (k : Book) (body : List ℕ) (room : ℕ) → MovesNobody k (record { octets = 7 ∷ body; room = room })
unfolding request
moves_nobody k body room =
    still_moves_nobody k (7 ∷ body) room
    (either_still (eqb (length body) 69)
    (either_still (in_range (LegFacility (leg_in body) (count_in body) (drop 5 body))) (leg_facility_still (leg_in body) (count_in body) (drop 5 body)) (malformed_still refusal.FieldOutOfRange))
    (malformed_still refusal.WrongLength))
