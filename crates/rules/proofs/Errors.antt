-- Errors and refusals leave the board as it was.
use Prim.Native.Nat.{ℕ}
use mathlib.Core.Path.{◌≡◌, refl, ◌∙◌}
use mathlib.Core.Bool.{Bool, false, true, cond}
use mathlib.Core.List.{◌++◌, ◌∷◌, List, []}
use lib.Dec.{eqb, ltb}
use lib.IntN.{ℤ}
use lib.ListN.{get_or}
use Rattle.octets.specs.declared.IntegerOctets.{IntegerOctets}
use Rattle.board.specs.declared.Connection.{Connection}
use Rattle.board.specs.declared.Connection.TheVariants.{WithUser, WithPartner}
use Rattle.board.specs.declared.Entry.{Entry}
use Rattle.board.specs.declared.Options.{Options}
use Rattle.board.specs.declared.Party.{Party}
use Rattle.board.specs.Changes.{full}
use Rattle.board.specs.Entries.{taken}
use Rattle.events.specs.EventRecords.{Request, request}
use Rattle.board.specs.Soundness.{sound}
use Rattle.board.specs.States.{delivered}
use Rattle.board.specs.declared.Board.{Board}
use Rattle.component.specs.Answers.{answer_octets, filled}
use Rattle.rules.specs.Checks.{Decision, Refuse, Accept, returned_by}
use Rattle.events.specs.Refusals.{refusal_number}
use Rattle.rules.specs.History.{Event, stepped}
use Rattle.rules.specs.Replies.{told, TellNumber, error_record, Drop, number_at, octets, typed, typed_tell, untyped_tell, error_tag, Reply, ReplyRecord, error_octets, Tell, Gone, PassOn, transfer_replies, release_replies, answer_told}
use Rattle.rules.proofs.Decided.{Decided, refuses, changes_nothing, opens_leg_lem, sets_state, sets_auxiliary, releases, assigns_link_id, transfers, ends_alerting, decided}
use Rattle.rules.specs.Step.{board_after, rows_after, candidate_after, done, replies, refused, step, step_tested, Outcome, decision}
use Rattle.octets.proofs.Lists.{true_not_false, neither, or_left}
use Rattle.board.specs.declared.RuleSet.{RuleSet}
use Rattle.board.specs.declared.RuleSet.TheVariants.{European, American}
use Rattle.board.specs.RuleSets.{rule_set}
use Rattle.std.proofs.lemmas.List.Folds.{list_any-append}
use Rattle.octets.specs.Lists.{any}
use Rattle.events.specs.declared.Refusal.TheVariants as refusal

-- ---- errors

told_well : (r : RuleSet) (l : ℕ) (a b : Bool) (n : TellNumber) → any error_record (told r l a b n) ≡ false
told_well European l true b n = refl
told_well American l true b n = refl
told_well r l false true n = refl
told_well r l false false n = refl

transfer_well : (rules : RuleSet) (r : ℕ) (i : IntegerOctets) (p q : Party) (numbers : ℕ → TellNumber) → any error_record (transfer_replies rules r i p q numbers) ≡ false
unfolding answer_octets
transfer_well rules r i p q numbers =
    list_any-append error_record (told rules p.leg (delivered p.call) (delivered q.call) (numbers q.leg)) _
    ∙ neither (told_well rules p.leg (delivered p.call) (delivered q.call) (numbers q.leg))
    (told_well rules q.leg (delivered q.call) (delivered p.call) (numbers p.leg))

answer_well : (r : RuleSet) (l p : ℕ) (numbers : ℕ → TellNumber) → any error_record (answer_told r l p numbers) ≡ false
answer_well European l p numbers = refl
answer_well American l p numbers = refl

release_well : (t : Connection) (numbers : ℕ → TellNumber) → any error_record (release_replies t numbers) ≡ false
release_well (WithUser c) numbers = refl
release_well (WithPartner p a) numbers = refl

-- what is decided and changes the board writes no error
well_by : (b : Board) {opt : Options} {z : ℤ} {w : Bool} {es : List Entry} {q : Request} {d : Decision} → Decided opt z w es q d →
    any error_record (replies b.rows d) ≡ true → board_after d b ≡ b
unfolding replies board_after rows_after candidate_after answer_octets
well_by b (refuses c) h = refl
well_by b (changes_nothing f g k) h = refl
well_by b (opens_leg_lem e f g) h = absurd (true_not_false h refl)
well_by b (sets_state e k) h = absurd (true_not_false h refl)
well_by b (sets_auxiliary e k) h = absurd (true_not_false h refl)
well_by b (releases {e = e} m k) h = absurd (true_not_false h (release_well e.connection (number_at b.rows)))
well_by b (assigns_link_id i m e k) h = absurd (true_not_false h refl)
well_by b {opt} (transfers {p = p} {o = q} i m n k) h = absurd (true_not_false h (transfer_well (rule_set opt) p.call.reference.0 i p q (number_at b.rows)))
well_by b {opt} (ends_alerting {l = l} {p = p}) h = absurd (true_not_false h (answer_well (rule_set opt) l p (number_at b.rows)))

well_done : (b : Board) (os : List ℕ) → any error_record (replies b.rows (decision b os)) ≡ true → board_after (decision b os) b ≡ b
unfolding decision
well_done b os h = well_by b (decided b.options b.candidate.0 (full b.rows) (taken b.rows) (request os)) h

untouched_done : (b : Board) (d : Decision) → eqb (returned_by d) 0 ≡ false → done b d ≡ refused (returned_by d) b
unfolding board_after rows_after candidate_after replies
untouched_done b (Refuse c) h = refl
untouched_done b (Accept c w) h = absurd (true_not_false refl h)

pub untouched_step : (b : Board) (e : Event) → eqb (stepped b e).returned 0 ≡ false → stepped b e ≡ refused (stepped b e).returned b
unfolding step step_tested
untouched_step b e = go (ltb e.room 128) (sound b)
  where
    go : (x y : Bool) → eqb (cond {A = Outcome} x (refused (refusal_number refusal.BufferTooSmall) b) (cond y (done b (decision b e.octets)) (refused (refusal_number refusal.UnsoundBoard) b))).returned 0 ≡ false →
        cond {A = Outcome} x (refused (refusal_number refusal.BufferTooSmall) b) (cond y (done b (decision b e.octets)) (refused (refusal_number refusal.UnsoundBoard) b)) ≡ refused (cond {A = Outcome} x (refused (refusal_number refusal.BufferTooSmall) b) (cond y (done b (decision b e.octets)) (refused (refusal_number refusal.UnsoundBoard) b))).returned b
    go true y h = refl
    go false true h = untouched_done b (decision b e.octets) h
    go false false h = refl

pub unharmed : (b : Board) (e : Event) → any error_record (stepped b e).replies ≡ true → (stepped b e).board ≡ b
unfolding step step_tested
unharmed b e = go (ltb e.room 128) (sound b)
  where
    go : (x y : Bool) → any error_record (cond {A = Outcome} x (refused (refusal_number refusal.BufferTooSmall) b) (cond y (done b (decision b e.octets)) (refused (refusal_number refusal.UnsoundBoard) b))).replies ≡ true →
        (cond {A = Outcome} x (refused (refusal_number refusal.BufferTooSmall) b) (cond y (done b (decision b e.octets)) (refused (refusal_number refusal.UnsoundBoard) b))).board ≡ b
    go true y h = refl
    go false true h = well_done b e.octets h
    go false false h = refl

-- ---- an error by the octets is an error by the records

component_tag : (c rest : List ℕ) → error_tag (get_or (filled c ++ rest) 0 0) ≡ true → error_tag (get_or c 0 0) ≡ true
component_tag [] rest h = absurd (true_not_false h refl)
component_tag (x ∷ c) rest h = h

pub octets_error : (rs : List ReplyRecord) → error_octets (octets rs) ≡ true → any error_record rs ≡ true
unfolding octets
octets_error [] h = absurd (true_not_false h refl)
octets_error (Reply r a ∷ rs) h = or_left (error_tag (get_or (answer_octets a) 0 0)) (any error_record rs) (component_tag (answer_octets a) (octets rs) h)
octets_error (Tell l m d n s ∷ rs) h = absurd (true_not_false h (no_reply (typed n)))
  where
    no_reply : (b : Bool) → error_octets (cond b (typed_tell l m d n s) (untyped_tell l m d n s) ++ octets rs) ≡ false
    no_reply true = refl
    no_reply false = refl
octets_error (Drop r ∷ rs) h = absurd (true_not_false h refl)
octets_error (Gone l ∷ rs) h = absurd (true_not_false h refl)
octets_error (PassOn l n c ∷ rs) h = absurd (true_not_false h refl)
