-- An Inform: accepted exactly when the checks are passed, then the far party of its call is told; the board stays, and nobody is moved.
use Prim.Native.Nat.{ℕ, ◌<◌}
use native.Mathlib.Omega.{arith}
use borrow.Author.Tests.{ltb-true, ltb-false, eqb-true, eqb-false}
use mathlib.Core.Path.{◌≡◌, refl, sym, ap, ap₂, ◌∙◌}
use mathlib.Core.Bool.{Bool, true, false, not, cond}
use mathlib.Core.List.{List, [], ◌∷◌, Memᴰ, append-nil}
use Rattle.std.specs.Prelude.{None, Option, Some}
use lib.Dec.{eqb, ltb, T}
use lib.ListN.{length, drop}
use Rattle.octets.proofs.Lists.{true_not_false, left, right, both, is_true, from_true, is_not, find_mem, any_of, eqb_eq}
use Rattle.octets.specs.Lists.{any}
use Rattle.private_transfers.specs.declared.Indication.{Indication}
use Rattle.private_transfers.specs.declared.Indication.TheVariants.{Alerting, Active}
use Rattle.private_transfers.specs.EctInform.{Number, NotSent, Restricted, Given, EctInform, inform_in}
use Rattle.board.specs.declared.Board.{Board}
use Rattle.board.specs.declared.Call.{Call}
use Rattle.board.specs.declared.Party.{Party}
use Rattle.board.specs.Changes.{full}
use Rattle.board.specs.Entries.{taken, calls, has_reference, has_party_reference}
use Rattle.board.specs.Soundness.{sound}
use Rattle.board.specs.States.{active, valid_reference}
use Rattle.events.specs.declared.Refusal.TheVariants as refusal
use Rattle.events.specs.Refusals.{refusal_number}
use Rattle.events.specs.EventRecords.{Request, Malformed, Inform, request, ranged, valid_component}
use Rattle.rules.specs.Book.{Book}
use Rattle.rules.specs.Checks.{Refuse, Accept, decide, decide_informing, decide_inform, named, change_of}
use Rattle.rules.specs.Informed.{reference_in, count_in, component_in, Judged, Names, Informable, alerting_tell, active_tell, Informed}
use Rattle.rules.specs.Replies.{octets, inform_record, inform_told, number_at, number_as_received}
use Rattle.rules.specs.SingleEvents.{MovesNobody}
use Rattle.rules.specs.Step.{Outcome, step, step_tested, decision, refused, done, board_after, rows_after, candidate_after, replies}
use Rattle.rules.proofs.Kept.{party_mem}
use Rattle.rules.proofs.SingleEvents.{party, row_party, party_row, Still, malformed_still, either_still, still_moves_nobody}

-- ---- what is decided

-- what the record asks for, by the tests of its length, of its component and of its reference
abbrev asked : List ℕ → Bool → Bool → Request
asked body long good = cond long (ranged (cond good (Inform (reference_in body) (component_in body)) (Malformed refusal.FieldOutOfRange))) (Malformed refusal.WrongLength)

none_some : {A : Type 0} {x : A} → None ≡ Some x → ⊥
none_some e = let z : ◌≡◌ {A = ℕ} 0 1 = cc in omega arith

-- the octets of what is told
told_octets : ℕ → Indication → Number → List ℕ
told_octets l Alerting n = alerting_tell l
told_octets l Active n = active_tell l (number_as_received n)

written_is : (l : ℕ) (i : Indication) (n : Number) → octets (inform_record l i (number_as_received n) ∷ []) ≡ told_octets l i n
unfolding octets told_octets
written_is l Alerting n = append-nil (alerting_tell l)
written_is l Active NotSent = append-nil (active_tell l (number_as_received NotSent))
written_is l Active Restricted = append-nil (active_tell l (number_as_received Restricted))
written_is l Active (Given ds) = append-nil (active_tell l (number_as_received (Given ds)))

module _ (b : Board) (body : List ℕ) (room : ℕ) where
  Holds : Outcome → Type 0
  Holds o = Informed b body room o.returned o.board (octets o.replies)

  -- checks 1 to 5 refuse it
  not_judged : (n : ℕ) → 0 < n → (Judged b body room → ⊥) → Holds (refused n b)
  unfolding octets Holds
  not_judged n p h = record {
    accepted = (λ e. absurd (omega (arith, p, e)), λ j. absurd (h j.0));
    told_alerting = λ l i j. absurd (h j);
    told_active = λ l i j. absurd (h j);
    no_such_call = λ j. absurd (h j);
    not_active = λ j. absurd (h j);
    no_such_invoke = λ j. absurd (h j);
    refused = λ e. refl;
    board_stays = refl;
  }

  module _ (j : Judged b body room) where
    -- the party of the call that the event names
    party_of : {l : ℕ} {c : Call} → Names b body l c → named (reference_in body) (taken b.rows) ≡ Some (party l c)
    party_of {l} {c} n = row_party b (reference_in body) l c (is_true _ j.sound_board) n.with_user n.reference

    -- 9
    absent : named (reference_in body) (taken b.rows) ≡ None → Holds (refused 9 b)
    unfolding octets Holds
    absent h = record {
      accepted = (λ e. absurd (omega (arith, e)), λ k. absurd (no_call k.1.1.1.names));
      told_alerting = λ l i k m. absurd (no_call m.names);
      told_active = λ l i k m. absurd (no_call m.names);
      no_such_call = λ k o. refl;
      not_active = λ k l c n. absurd (no_call n);
      no_such_invoke = λ k l c n. absurd (no_call n);
      refused = λ e. refl;
      board_stays = refl;
    }
      where
        no_call : {l : ℕ} {c : Call} → Names b body l c → ⊥
        no_call n = none_some (sym h ∙ party_of n)

    module _ {p : Party} (h : named (reference_in body) (taken b.rows) ≡ Some p) where
      -- the call is that party's and no other's
      only_party : {l : ℕ} {c : Call} → Names b body l c → p ≡ party l c
      only_party {l} {c} n =
          let q : Some p ≡ Some (party l c) = sym h ∙ party_of n in
          cc

      active_is : {l : ℕ} {c : Call} → Names b body l c → active p.call ≡ active c
      active_is n = ap (λ (x : Party). active x.call) (only_party n)

      found : Memᴰ p (calls (taken b.rows)) × (has_party_reference (reference_in body) p ≡ true)
      found = find_mem (has_party_reference (reference_in body)) (calls (taken b.rows)) h

      there : T (not (any (has_reference (reference_in body)) (taken b.rows))) → ⊥
      there o = true_not_false (any_of (has_reference (reference_in body)) (party_mem (taken b.rows) found.0) found.1) (is_not (is_true _ o))

      names : Names b body p.leg p.call
      names = record {
        with_user = party_row b (reference_in body) (is_true _ j.sound_board) h;
        reference = sym (eqb_eq (reference_in body) p.call.reference.0 found.1);
      }

      -- 11
      inactive : active p.call ≡ false → Holds (refused 11 b)
      unfolding octets Holds
      inactive f = record {
        accepted = (λ e. absurd (omega (arith, e)), λ k. absurd (is k.1.1.1.names k.1.1.1.is_active));
        told_alerting = λ l i k m. absurd (is m.names m.is_active);
        told_active = λ l i k m. absurd (is m.names m.is_active);
        no_such_call = λ k o. absurd (there o);
        not_active = λ k l c n a. refl;
        no_such_invoke = λ k l c n a. absurd (is n a);
        refused = λ e. refl;
        board_stays = refl;
      }
        where
          is : {l : ℕ} {c : Call} → Names b body l c → T (active c) → ⊥
          is n a = true_not_false (active_is n ∙ is_true _ a) f

      module _ (a : active p.call ≡ true) where
        is_not_active : {l : ℕ} {c : Call} → Names b body l c → T (not (active c)) → ⊥
        is_not_active n f = true_not_false (sym (active_is n) ∙ a) (is_not (is_true _ f))

        -- 12
        other_component : inform_in (component_in body) ≡ None → Holds (refused 12 b)
        unfolding octets Holds
        other_component f = record {
          accepted = (λ e. absurd (omega (arith, e)), λ k. absurd (none_said k.1.1.1.invoke));
          told_alerting = λ l i k m. absurd (none_said m.invoke);
          told_active = λ l i k m. absurd (none_said m.invoke);
          no_such_call = λ k o. absurd (there o);
          not_active = λ k l c n g. absurd (is_not_active n g);
          no_such_invoke = λ k l c n g i. refl;
          refused = λ e. refl;
          board_stays = refl;
        }
          where
            none_said : {i : EctInform} → inform_in (component_in body) ≡ Some i → ⊥
            none_said {i} q = none_some (sym f ∙ q)

        -- accepted, and the far party is told what the component says
        told : (i : EctInform) → inform_in (component_in body) ≡ Some i → Holds (done b (Accept None (inform_told p.leg i)))
        unfolding Holds board_after rows_after candidate_after replies told_octets
        told i t = record {
          accepted = (λ e. (j, (p.leg, (i, record { call = p.call; names = names; is_active = from_true a; invoke = t }))), λ k. refl);
          told_alerting = λ l x k m e. told_is m ∙ ap (λ (y : Indication). told_octets l y x.number) e;
          told_active = λ l x k m e. told_is m ∙ ap (λ (y : Indication). told_octets l y x.number) e;
          no_such_call = λ k o. absurd (there o);
          not_active = λ k l c n f. absurd (is_not_active n f);
          no_such_invoke = λ k l c n f o. absurd (none_some (sym o ∙ t));
          refused = λ e. absurd (e refl);
          board_stays = refl;
        }
          where
            same : {x : EctInform} → inform_in (component_in body) ≡ Some x → i ≡ x
            same {x} q = let e : Some i ≡ Some x = sym t ∙ q in cc

            told_is : {l : ℕ} {x : EctInform} → Informable b body l x → octets (inform_told p.leg i (number_at b.rows)) ≡ told_octets l x.indication x.number
            told_is m =
                written_is p.leg i.indication i.number
                ∙ ap₂ (λ (q : Party) (y : EctInform). told_octets q.leg y.indication y.number) (only_party m.names) (same m.invoke)

        said : (o : Option EctInform) → inform_in (component_in body) ≡ o → Holds (done b (decide_informing p.leg o))
        unfolding board_after rows_after candidate_after replies
        said None e = other_component e
        said (Some i) e = told i e

    of_party : (o : Option Party) → named (reference_in body) (taken b.rows) ≡ o → Holds (done b (decide_inform (component_in body) o))
    unfolding board_after rows_after candidate_after replies
    of_party None e = absent e
    of_party (Some p) e = go (active p.call) refl
      where
        go : (x : Bool) → active p.call ≡ x → Holds (done b (cond x (decide_informing p.leg (inform_in (component_in body))) (Refuse refusal.NotPermitted)))
        go true a = said e a (inform_in (component_in body)) refl
        go false a = inactive e a

  pub rules_inform : Informed b body room (step b (8 ∷ body) room).returned (step b (8 ∷ body) room).board (octets (step b (8 ∷ body) room).replies)
  unfolding step step_tested decision request decide Holds board_after rows_after candidate_after replies
  rules_inform = go (ltb room 128) (sound b) (eqb (length body) 67) (valid_component 64 (count_in body) (drop 3 body)) refl refl refl refl
    where
      go : (x y z w : Bool) → ltb room 128 ≡ x → sound b ≡ y → eqb (length body) 67 ≡ z → valid_component 64 (count_in body) (drop 3 body) ≡ w →
          Holds (cond {A = Outcome} x (refused (refusal_number refusal.BufferTooSmall) b)
          (cond y (done b (decide b.options b.candidate.0 (full b.rows) (taken b.rows) (asked body z w))) (refused (refusal_number refusal.UnsoundBoard) b)))
      go true y z w e f g h = not_judged 1 (omega arith) (λ j. let u = ltb-true room 128 e in omega (arith, u, j.enough))
      go false false z w e f g h = not_judged 2 (omega arith) (λ j. true_not_false (is_true _ j.sound_board) f)
      go false true false w e f g h = not_judged 3 (omega arith) (λ j. eqb-false (length body) 67 g j.long)
      go false true true false e f g h =
          not_judged 5 (omega arith) (λ j. true_not_false (left (valid_component 64 (count_in body) (drop 3 body)) (valid_reference (reference_in body)) (is_true _ j.is_in_range)) h)
      go false true true true e f g h = named_by (valid_reference (reference_in body)) refl
        where
          named_by : (v : Bool) → valid_reference (reference_in body) ≡ v →
              Holds (done b (decide b.options b.candidate.0 (full b.rows) (taken b.rows) (cond v (Inform (reference_in body) (component_in body)) (Malformed refusal.FieldOutOfRange))))
          named_by false v = not_judged 5 (omega arith) (λ j. true_not_false (right (valid_component 64 (count_in body) (drop 3 body)) (valid_reference (reference_in body)) (is_true _ j.is_in_range)) v)
          named_by true v =
              of_party (record { enough = ltb-false room 128 e; sound_board = from_true f; long = eqb-true (length body) 67 g; is_in_range = from_true (both h v) })
              (named (reference_in body) (taken b.rows)) refl

-- ---- nobody is opened, ended or joined

inform_still : (r : ℕ) (c : List ℕ) → Still (Inform r c)
unfolding decide
inform_still r c = record { changes_none = λ o z full es. party_none (named r es); opens_none = λ l. refl; ends_none = λ es l. refl }
  where
    said_none : (l : ℕ) (o : Option EctInform) → change_of (decide_informing l o) ≡ None
    said_none l None = refl
    said_none l (Some i) = refl

    party_none : (o : Option Party) → change_of (decide_inform c o) ≡ None
    party_none None = refl
    party_none (Some p) = go (active p.call)
      where
        go : (x : Bool) → change_of (cond x (decide_informing p.leg (inform_in c)) (Refuse refusal.NotPermitted)) ≡ None
        go true = said_none p.leg (inform_in c)
        go false = refl

pub inform_moves_nobody : (k : Book) (body : List ℕ) (room : ℕ) → MovesNobody k (record { octets = 8 ∷ body; room = room })
unfolding request
inform_moves_nobody k body room =
    still_moves_nobody k (8 ∷ body) room
    (either_still (eqb (length body) 67) (component_by (valid_component 64 (count_in body) (drop 3 body))) (malformed_still refusal.WrongLength))
  where
    component_by : (w : Bool) → Still (ranged (cond w (Inform (reference_in body) (component_in body)) (Malformed refusal.FieldOutOfRange)))
    component_by true = either_still (valid_reference (reference_in body)) (inform_still (reference_in body) (component_in body)) (malformed_still refusal.FieldOutOfRange)
    component_by false = malformed_still refusal.FieldOutOfRange
