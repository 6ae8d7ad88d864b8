-- What a console of the old kind meets in the octets that an event writes.
use Prim.{tt}
use Prim.Native.Nat.{◌≤◌, ℕ, zero, suc}
use native.Mathlib.Omega.{arith}
use mathlib.Core.Path.{◌≡◌, refl, sym, subst}
use mathlib.Core.Bool.{◌&&◌, true, false, Bool, cond}
use mathlib.Core.List.{◌++◌, ◌∷◌, List, [], append-nil, map, Memᴰ}
use lib.Dec.{eqb, eqb-suc-zero, leb, ltb}
use lib.ListN.{length, drop, get_or, length-append}
use lib.Seq.{take_at}
use Rattle.std.specs.Prelude.{Some}
use Rattle.std.proofs.lemmas.Bool.{eqb-false}
use Rattle.std.proofs.Math.Seq.{drop-append_seam}
use Rattle.octets.specs.Lists.{all}
use Rattle.octets.proofs.Lists.{left, right, from_true}
use Rattle.component.specs.declared.Answer.{Answer}
use Rattle.component.specs.declared.Answer.TheVariants as answer
use Rattle.board.specs.declared.Board.{Board}
use Rattle.board.specs.declared.PartyNumber.{PartyNumber}
use Rattle.board.specs.declared.Connection.TheVariants.{WithUser, WithPartner}
use Rattle.board.specs.declared.RuleSet.{RuleSet}
use Rattle.board.specs.declared.RuleSet.TheVariants.{European, American}
use Rattle.board.specs.States.{delivered}
use Rattle.board.specs.Entries.{taken}
use Rattle.board.specs.Changes.{full}
use Rattle.board.specs.Soundness.{valid_number, valid_row, sound, sound_rows, valid_options}
use Rattle.events.specs.EventRecords.{Inform, request}
use Rattle.events.specs.Refusals.{refusal_number}
use Rattle.events.specs.declared.Refusal.TheVariants as refusal
use Rattle.private_transfers.specs.declared.Indication.{Indication}
use Rattle.private_transfers.specs.declared.Indication.TheVariants.{Alerting, Active}
use Rattle.private_transfers.specs.EctInform.{Number, NotSent, Restricted, Given, EctInform, inform_in}
use Rattle.rules.specs.Replies.{ReplyRecord, Reply, Tell, Drop, Gone, PassOn, TellNumber, typed, typed_tell, untyped_tell, record_octets, octets, mark_only, given, number_at, number_as_received, told, inform_record, Written}
use Rattle.rules.specs.Step.{replies, step, step_tested, Outcome, refused, done, decision}
use Rattle.rules.specs.OldConsole.{OldConsole, OfType0, of_row, received, known_length, met, met_from, before_86}
use Rattle.rules.proofs.Agreement.{request_in}
use Rattle.rules.proofs.Decided.{writes}
use Rattle.rules.proofs.Forms.{Writes, silent, reply, of_transfer, of_release, of_answer, passed, informed}
use Rattle.rules.proofs.Lengths.{reply_length, received_length}
use Rattle.rules.proofs.Room.{NumberOf, mark_alone, of_taken, number_of_leg, number_length}
use Rattle.std.proofs.lemmas.Bool.Decides.{nat_tests}

-- a number that is told as given has type 0
abbrev GivenType0 : ReplyRecord → Type 0
GivenType0 (Reply r a) = Unit {0}
GivenType0 (Tell l m d n s) = n.mark ≡ 1 → n.type_of_number ≡ 0
GivenType0 (Drop r) = Unit {0}
GivenType0 (Gone l) = Unit {0}
GivenType0 (PassOn l n c) = Unit {0}

-- what it meets is just these records before the first 0x86, at every count that is large enough, so that one record more
-- in front needs no other count
record Meets (b : Board) (event : List ℕ) (rs : List ReplyRecord) : Type 0 where
  meets : (k : ℕ) → length (octets rs) ≤ k → met_from k (octets rs) ≡ map record_octets (before_86 rs)
  given_0 : (r : ReplyRecord) → Memᴰ r (before_86 rs) → GivenType0 r
  type_0 : (m : List ℕ) → Memᴰ m (map record_octets (before_86 rs)) → get_or m 0 0 ≡ 0x82 → get_or m 7 0 ≡ 1 → OfType0 b event (drop 9 m)

-- a number as it is told: with fifteen digits and, where it is given and not typed, of type 0
record Told (b : Board) (event : List ℕ) (n : TellNumber) : Type 0 where
  fifteen : length n.digits ≡ 15
  type_0 : n.mark ≡ 1 → typed n ≡ false → n.type_of_number ≡ 0
  untyped : n.mark ≡ 1 → typed n ≡ false → OfType0 b event (n.count ∷ n.digits)

module _ {b : Board} {event : List ℕ} where
  old_console : (rs : List ReplyRecord) → Meets b event rs → OldConsole b event rs (octets rs)
  old_console rs w = record { meets = same; given = λ l m d s n h. w.given_0 (Tell l m d n s) h; type_0 = λ m h. w.type_0 m (subst (λ (ms : List (List ℕ)). Memᴰ m ms) same h) }
    where
      same : met (octets rs) ≡ map record_octets (before_86 rs)
      same = w.meets (length (octets rs)) (omega arith)

  none : Meets b event []
  unfolding octets before_86 met_from
  none = record { meets = no_record; given_0 = λ r h. elim h [ ]; type_0 = λ m h. elim h [ ] }
    where
      no_record : (k : ℕ) → 0 ≤ k → met_from k [] ≡ []
      no_record zero h = refl
      no_record (suc k) h = refl

  -- a record of a kind that it knows, as long as its kind
  known : (r : ReplyRecord) (o : ℕ) (os : List ℕ) {rs : List ReplyRecord} → record_octets r ≡ o ∷ os → known_length o ≡ suc (length os) → eqb o 0x86 ≡ false →
      GivenType0 r → (o ≡ 0x82 → get_or (o ∷ os) 7 0 ≡ 1 → OfType0 b event (drop 9 (o ∷ os))) → Meets b event rs → Meets b event (r ∷ rs)
  unfolding octets before_86 met_from
  known r o os {rs} e n f g t w = record {
    meets = λ k h. rw (first, e) (at k (subst (λ (s : List ℕ). length (s ++ octets rs) ≤ k) e h));
    given_0 = λ q h. of_given (rw first at h);
    type_0 = λ m h. of_member (rw (first, e) at h);
  }
    where
      first : before_86 (r ∷ rs) ≡ r ∷ before_86 rs
      first = rw (e, f)

      at : (k : ℕ) → length (o ∷ os ++ octets rs) ≤ k → met_from k (o ∷ os ++ octets rs) ≡ (o ∷ os) ∷ map record_octets (before_86 rs)
      at zero h = absurd (omega (arith, h))
      at (suc k) h = rw (n, eqb-suc-zero, take_at (o ∷ os) (octets rs) (suc (length os)) refl, drop-append_seam (o ∷ os) (octets rs), w.meets k (omega (arith, length-append os (octets rs))))

      of_given : {q : ReplyRecord} → Memᴰ q (r ∷ before_86 rs) → GivenType0 q
      of_given (Memᴰ.head x) = rw x g
      of_given {q} (Memᴰ.tail x) = w.given_0 q x

      of_member : {m : List ℕ} → Memᴰ m ((o ∷ os) ∷ map record_octets (before_86 rs)) → get_or m 0 0 ≡ 0x82 → get_or m 7 0 ≡ 1 → OfType0 b event (drop 9 m)
      of_member (Memᴰ.head x) = rw x t
      of_member {m} (Memᴰ.tail x) = w.type_0 m x

  -- it stops at a typed number
  stops : (r : ReplyRecord) (os : List ℕ) {rs : List ReplyRecord} → record_octets r ≡ 0x86 ∷ os → Meets b event (r ∷ rs)
  unfolding octets before_86 met_from
  stops r os {rs} e = record {
    meets = λ k h. rw (none_before, e) (at k);
    given_0 = λ q h. elim (rw none_before at h) [ ];
    type_0 = λ m h. elim (rw none_before at h) [ ];
  }
    where
      none_before : before_86 (r ∷ rs) ≡ []
      none_before = rw e

      at : (k : ℕ) → met_from k (0x86 ∷ os ++ octets rs) ≡ []
      at zero = refl
      at (suc k) = refl

  -- ---- one record in front of others

  reply_met : (r : ℕ) (a : Answer) {rs : List ReplyRecord} → Meets b event rs → Meets b event (Reply r a ∷ rs)
  reply_met r a = known (Reply r a) 0x81 _ refl (sym (reply_length r a)) refl tt (λ k x. absurd (omega (arith, k)))

  drop_met : (r : ℕ) {rs : List ReplyRecord} → Meets b event rs → Meets b event (Drop r ∷ rs)
  drop_met r = known (Drop r) 0x83 _ refl refl refl tt (λ k x. absurd (omega (arith, k)))

  gone_met : (l : ℕ) {rs : List ReplyRecord} → Meets b event rs → Meets b event (Gone l ∷ rs)
  gone_met l = known (Gone l) 0x84 _ refl refl refl tt (λ k x. absurd (omega (arith, k)))

  passed_met : (l n : ℕ) {c : List ℕ} {rs : List ReplyRecord} → length c ≡ 64 → Meets b event rs → Meets b event (PassOn l n c ∷ rs)
  passed_met l n {c} h = known (PassOn l n c) 0x85 _ refl (omega (arith, h)) refl tt (λ k x. absurd (omega (arith, k)))

  tell_met : (l m d : ℕ) (n : TellNumber) (s : ℕ) {rs : List ReplyRecord} → Told b event n → Meets b event rs → Meets b event (Tell l m d n s ∷ rs)
  tell_met l m d n s {rs} h w = go (typed n) refl
    where
      form : {x : Bool} → typed n ≡ x → record_octets (Tell l m d n s) ≡ cond x (typed_tell l m d n s) (untyped_tell l m d n s)
      form e = rw e

      go : (x : Bool) → typed n ≡ x → Meets b event (Tell l m d n s ∷ rs)
      go true e = stops (Tell l m d n s) _ (form e)
      go false e = known (Tell l m d n s) 0x82 _ (form e) (omega (arith, h.fifteen)) refl (λ x. h.type_0 x e) (λ k x. h.untyped x e) w

  -- ---- what an event writes

  mark_told : (m : ℕ) → eqb m 1 ≡ false → Told b event (mark_only m)
  mark_told m h = record { fifteen = refl; type_0 = λ e. absurd (eqb-false m 1 h e); untyped = λ e. absurd (eqb-false m 1 h e) }

  told_met : (r : RuleSet) (l : ℕ) (x y : Bool) {n : TellNumber} {rs : List ReplyRecord} → Told b event n → Meets b event rs → Meets b event (told r l x y n ++ rs)
  told_met r l false false h w = tell_met l _ _ _ 1 h w
  told_met r l false true h w = tell_met l _ _ _ 1 (mark_told 0 refl) w
  told_met European l true y h w = tell_met l _ _ _ 0 h w
  told_met American l true y h w = w

  inform_met : (l : ℕ) (x : Indication) {n : TellNumber} → Told b event n → Meets b event (inform_record l x n ∷ [])
  inform_met l Alerting h = tell_met l _ _ _ 0 (mark_told 0 refl) none
  inform_met l Active h = tell_met l _ _ _ 1 h none

  received_told : {r : ℕ} {c : List ℕ} (i : EctInform) → request event ≡ Inform r c → inform_in c ≡ Some i → Told b event (number_as_received i.number)
  received_told i e f = go i.number refl
    where
      go : (n : Number) → i.number ≡ n → Told b event (number_as_received n)
      go NotSent g = mark_told 0 refl
      go Restricted g = mark_told 2 refl
      go (Given ds) g = record { fifteen = received_length (Given ds); type_0 = λ x y. refl; untyped = λ x y. received e f g }

  written_met : {w : Written} → Writes (request event) w → (numbers : ℕ → TellNumber) → ((l : ℕ) → Told b event (numbers l)) → Meets b event (w numbers)
  written_met silent numbers h = none
  written_met (reply r a) numbers h = reply_met r a none
  written_met (of_transfer rules r i p q) numbers h =
      reply_met r (answer.Result i) (drop_met p.call.reference.0 (drop_met q.call.reference.0
      (told_met rules p.leg (delivered p.call) (delivered q.call) (h q.leg)
      (subst (Meets b event) (append-nil (told rules q.leg (delivered q.call) (delivered p.call) (numbers p.leg)))
      (told_met rules q.leg (delivered q.call) (delivered p.call) (h p.leg) none)))))
  written_met (of_release (WithUser c)) numbers h = drop_met c.reference.0 none
  written_met (of_release (WithPartner p a)) numbers h = gone_met p none
  written_met (of_answer European l p) numbers h = tell_met p _ _ _ 0 (h l) none
  written_met (of_answer American l p) numbers h = tell_met p _ _ _ 0 (h l) (tell_met l _ _ _ 0 (h p) none)
  written_met (passed p n c k) numbers h = passed_met p n k none
  written_met (informed l i e f) numbers h = inform_met l i.indication (received_told i e f)

-- a valid number has no other type
type_is_0 : (n : PartyNumber) → valid_number n ≡ true → typed (given n.type_of_number n.count n.digits) ≡ false → n.type_of_number ≡ 0
type_is_0 n v e =
    let t = right (leb n.presentation 1) (leb n.type_of_number 2) (left (leb n.presentation 1 && leb n.type_of_number 2) _ v) in
    grind (arith, nat_tests)

number_told : {b : Board} {event : List ℕ} {n : TellNumber} → NumberOf b.rows n → Told b event n
number_told (mark_alone m h) = mark_told m h
number_told (of_taken {r = r} m o v) = record {
  fifteen = number_length (of_taken {r = r} m o v);
  type_0 = λ x e. type_is_0 r.number v e;
  untyped = λ x e. of_row m (from_true o) (type_is_0 r.number v e);
}

pub rules_old_console : (b : Board) (event : List ℕ) (room : ℕ) → OldConsole b event (step b event room).replies (octets (step b event room).replies)
unfolding step step_tested sound sound_rows replies decision
rules_old_console b event room = old_console (step b event room).replies (go (ltb room 128) (sound b) refl)
  where
    go : (x y : Bool) → sound b ≡ y →
        Meets b event (cond {A = Outcome} x (refused (refusal_number refusal.BufferTooSmall) b) (cond y (done b (decision b event)) (refused (refusal_number refusal.UnsoundBoard) b))).replies
    go true y h = none
    go false true h =
        written_met (writes b.options b.candidate.0 (full b.rows) (taken b.rows) (request event) (request_in event)) (number_at b.rows)
        (λ l. number_told (number_of_leg b.rows (left (all valid_row b.rows) _ (right (valid_options b.options) _ h)) l))
    go false false h = none
