-- An event writes at most 94 octets, so what it writes fits the 128 that are asked for.
use Rattle.std.specs.Prelude.{None, Option, Some}
use Prim.Native.Nat.{◌≤◌, ℕ, zero-le}
use native.Mathlib.Omega.{arith}
use mathlib.Core.Path.{◌≡◌, refl}
use mathlib.Core.Bool.{◌&&◌, true, false, Bool, cond}
use mathlib.Core.List.{List, [], ◌∷◌, Memᴰ}
use lib.Dec.{eqb, leb, ltb}
use lib.ListN.{length, length-append}
use Rattle.board.specs.declared.PartyNumber.{PartyNumber}
use Rattle.board.specs.declared.Connection.{Connection}
use Rattle.board.specs.declared.Connection.TheVariants.{WithUser, WithPartner}
use Rattle.board.specs.declared.Party.{Party}
use Rattle.board.specs.declared.RuleSet.{RuleSet}
use Rattle.board.specs.declared.RuleSet.TheVariants.{European, American}
use Rattle.board.specs.Changes.{full}
use Rattle.board.specs.Entries.{occupied, taken}
use Rattle.board.specs.Soundness.{valid_number, valid_standing, valid_row, sound, sound_rows, valid_options}
use Rattle.board.specs.States.{delivered}
use Rattle.board.specs.declared.Board.{Board}
use Rattle.board.specs.declared.Row.{Row}
use Rattle.board.specs.declared.Standing.{Standing}
use Rattle.board.specs.declared.Standing.TheVariants.{Empty, Served, Joined}
use Rattle.component.specs.declared.Answer.TheVariants as answer
use Rattle.octets.specs.declared.IntegerOctets.{IntegerOctets}
use Rattle.rules.proofs.Decided.{writes}
use Rattle.rules.proofs.Forms.{Writes, silent, reply, of_transfer, of_release, of_answer, passed, informed}
use Rattle.rules.proofs.Agreement.{request_in}
use Rattle.rules.proofs.Lengths.{Short, fifteen, nothing_short, reply_short, passed_short, inform_short, one_length, tell_length, tell_short, tells_length, transfer_length}
use Rattle.events.specs.Refusals.{refusal_number}
use Rattle.events.specs.EventRecords.{Request, request}
use Rattle.rules.specs.Replies.{number_at, TellNumber, Tell, record_octets, mark_only, given, number_of_row, octets, Written, tells, facility, transferred_active, transfer_replies, release_replies, answer_told}
use Rattle.rules.specs.Step.{replies, step, step_tested, Outcome, refused, done, decision}
use Rattle.octets.proofs.Lists.{left, true_not_false, right, find_mem, all_at}
use Rattle.octets.specs.Lists.{all, find}
use Rattle.events.specs.declared.Refusal.TheVariants as refusal

-- ---- a number has 15 digits

-- a mark alone, or the number of a valid row that is taken
pub data NumberOf (rows : List Row) : TellNumber → Type 0 where
  mark_alone : (m : ℕ) → eqb m 1 ≡ false → NumberOf rows (mark_only m)
  of_taken : {r : Row} → Memᴰ r rows → occupied r.standing ≡ true → valid_number r.number ≡ true →
      NumberOf rows (given r.number.type_of_number r.number.count r.number.digits)

row_number : (l : ℕ) (n : PartyNumber) (t : Standing) → occupied t ≡ true → valid_standing l n t ≡ true → valid_number n ≡ true
row_number l n Empty o h = absurd (true_not_false o refl)
row_number l n (Served c) o h = h
row_number l n (Joined q a) o h = h

pub number_of_leg : (rows : List Row) → all valid_row rows ≡ true → (l : ℕ) → NumberOf rows (number_at rows l)
unfolding valid_row
number_of_leg rows k l = go (find at_leg rows) refl
  where
    at_leg : Row → Bool
    at_leg r = eqb l r.leg && occupied r.standing

    chosen : (x y : Bool) {n : TellNumber} → NumberOf rows n → NumberOf rows (cond x (mark_only 0) (cond y (mark_only 2) n))
    chosen true y h = mark_alone 0 refl
    chosen false true h = mark_alone 2 refl
    chosen false false h = h

    go : (o : Option Row) → find at_leg rows ≡ o → NumberOf rows (number_of_row o)
    go None e = mark_alone 0 refl
    go (Some r) e =
        let f = find_mem at_leg rows e in
        let o = right (eqb l r.leg) (occupied r.standing) f.1 in
        chosen (eqb r.number.count 0) (eqb r.number.presentation 1)
        (of_taken f.0 o (row_number r.leg r.number r.standing o (all_at valid_row f.0 k)))

pub number_length : {rows : List Row} {n : TellNumber} → NumberOf rows n → length n.digits ≡ 15
number_length (mark_alone m h) = refl
number_length (of_taken {r = r} m o v) = fifteen r.number.count r.number.digits (right (leb r.number.presentation 1 && leb r.number.type_of_number 2) _ v)

-- ---- what an event writes

transfer_short : (rules : RuleSet) (r : ℕ) (i : IntegerOctets) (p q : Party) → Short (transfer_replies rules r i p q)
transfer_short rules r i p q = record {
  fits = λ numbers k.
      let w = tells_length rules p.leg q.leg (delivered p.call) (delivered q.call) (numbers q.leg) (numbers p.leg) (k q.leg) (k p.leg) in
      let e = transfer_length r (answer.Result i) p.call.reference.0 q.call.reference.0 (tells rules numbers p q) w in
      omega arith;
}

release_short : (t : Connection) → Short (release_replies t)
unfolding octets
release_short (WithUser c) = record { fits = λ numbers k. omega arith }
release_short (WithPartner p a) = record { fits = λ numbers k. omega arith }

answer_short : (r : RuleSet) (l p : ℕ) → Short (answer_told r l p)
unfolding octets
answer_short European l p = tell_short p facility transferred_active (λ (numbers : ℕ → TellNumber). numbers l) 0 (λ numbers k. k l)
answer_short American l p = record {
  fits = λ numbers k.
      let e = length-append (record_octets (Tell p facility transferred_active (numbers l) 0)) (octets (Tell l facility transferred_active (numbers p) 0 ∷ [])) in
      omega (arith, tell_length p facility transferred_active (numbers l) 0 (k l), tell_length l facility transferred_active (numbers p) 0 (k p), one_length (Tell l facility transferred_active (numbers p) 0));
}

short : {q : Request} {w : Written} → Writes q w → Short w
short silent = nothing_short
short (reply r a) = reply_short r a
short (of_transfer rules r i p o) = transfer_short rules r i p o
short (of_release t) = release_short t
short (of_answer rules l p) = answer_short rules l p
short (passed p n c h) = passed_short p n c h
short (informed l i e f) = inform_short l i

-- whatever the board, the event and the buffer, what is written fits
pub room_enough : (b : Board) (os : List ℕ) (room : ℕ) → length (octets (step b os room).replies) ≤ 94
unfolding step step_tested sound sound_rows octets replies decision
room_enough b os room = go (ltb room 128) (sound b) refl
  where
    go : (x y : Bool) → sound b ≡ y →
        length (octets (cond {A = Outcome} x (refused (refusal_number refusal.BufferTooSmall) b) (cond y (done b (decision b os)) (refused (refusal_number refusal.UnsoundBoard) b))).replies) ≤ 94
    go true y h = zero-le
    go false true h =
        (short (writes b.options b.candidate.0 (full b.rows) (taken b.rows) (request os) (request_in os))).fits (number_at b.rows)
        (λ l. number_length (number_of_leg b.rows (left (all valid_row b.rows) _ (right (valid_options b.options) _ h)) l))
    go false false h = zero-le
