-- Two events on unrelated calls give the same in either order: on every board, sound or not, and with every buffer.
use Rattle.std.specs.Prelude.{None, Option, Some}
use Prim.Native.Nat.{ℕ}
use mathlib.Core.Path.{◌∙◌, ◌≡◌, ap, ap₂, refl, sym}
use mathlib.Core.Bool.{Bool, true, false, ◌&&◌, not, cond}
use mathlib.Core.List.{List, []}
use lib.Dec.{T, eqb, ltb}
use lib.IntN.{ℤ}
use Rattle.octets.specs.Tests.{has_both}
use Rattle.octets.proofs.Lists.{left, right, is_true, is_not, from_true, both, true_not_false, eqb_sym}
use Rattle.board.specs.declared.AuxiliaryState.{AuxiliaryState}
use Rattle.board.specs.declared.Board.{Board}
use Rattle.board.specs.declared.CallState.{CallState}
use Rattle.board.specs.declared.Change.TheVariants.{SetState, SetAuxiliary}
use Rattle.board.specs.declared.Entry.{Entry}
use Rattle.board.specs.declared.Options.{Options}
use Rattle.board.specs.declared.Party.{Party}
use Rattle.board.specs.declared.Row.{Row}
use Rattle.board.specs.Changes.{changed_rows, row_after, with_state, with_auxiliary, full, with_rows}
use Rattle.board.specs.Entries.{taken}
use Rattle.board.specs.Soundness.{sound}
use Rattle.board.specs.States.{holdable}
use Rattle.events.specs.declared.Refusal.{Refusal}
use Rattle.events.specs.declared.Refusal.TheVariants.{BufferTooSmall, UnsoundBoard, NoSuchCall, NotPermitted}
use Rattle.events.specs.EventRecords.{Request, Malformed, Open, Progress, Hold, Release, Facility, Answer, LegFacility, Inform, request}
use Rattle.rules.specs.Checks.{Decision, Refuse, accept, decide, decide_progress, decide_hold, may_progress, may_hold, named, returned_by}
use Rattle.rules.specs.History.{Event, stepped}
use Rattle.rules.specs.Replies.{nothing}
use Rattle.rules.specs.Step.{Outcome, board_after, candidate_after, decision, done, replies, rows_after, step, step_tested}
use Rattle.event_order.specs.EventOrder.{Asked, AskedOfAll, DifferentReferences, is_malformed_or_names, reference_named, unrelated}
use Rattle.event_order.proofs.CallChanges.{same_named, rows_commute}
use Rattle.event_order.proofs.StaysSound.{stays_sound}

-- ---- a step by one decision, the checks of buffer and board among its refusals

abbrev judge : (small sound : Bool) → Decision → Decision
judge small sound d = cond small (Refuse BufferTooSmall) (cond sound d (Refuse UnsoundBoard))

judged : Board → Event → Decision
judged b e = judge (ltb e.room 128) (sound b) (decision b e.octets)

step_is : (b : Board) (e : Event) → stepped b e ≡ done b (judged b e)
unfolding step step_tested judged board_after rows_after candidate_after replies
step_is b e = go (ltb e.room 128) (sound b)
  where
    go : (x y : Bool) → cond x (done b (Refuse BufferTooSmall)) (cond y (done b (decision b e.octets)) (done b (Refuse UnsoundBoard))) ≡ done b (judge x y (decision b e.octets))
    go true y = refl
    go false true = refl
    go false false = refl

sound_same : (b : Board) (e : Event) → sound (board_after (judged b e) b) ≡ sound b
unfolding judged board_after rows_after candidate_after
sound_same b e = go (ltb e.room 128) (sound b) refl
  where
    go : (x y : Bool) → sound b ≡ y → sound (board_after (judge x y (decision b e.octets)) b) ≡ sound b
    go true y h = refl
    go false true h = stays_sound b e.octets h ∙ sym h
    go false false h = refl

-- ---- what is decided of such events: a refusal, or a change of the call that is named, and nothing is written

data Mild (o : Option ℕ) : Decision → Type 0 where
  refuses : (c : Refusal) → Mild o (Refuse c)
  sets_state : {r : ℕ} (s : CallState) → o ≡ Some r → Mild o (accept (SetState (record { 0 = r }) s) nothing)
  sets_auxiliary : {r : ℕ} (a : AuxiliaryState) → o ≡ Some r → Mild o (accept (SetAuxiliary (record { 0 = r }) a) nothing)

unless_refused : {o : Option ℕ} (x : Bool) {d : Decision} → Mild o d → Mild o (cond x d (Refuse NotPermitted))
unless_refused true h = h
unless_refused false h = refuses NotPermitted

mild : (opt : Options) (z : ℤ) (w : Bool) (es : List Entry) (q : Request) → is_malformed_or_names q ≡ true → Mild (reference_named q) (decide opt z w es q)
unfolding decide
mild opt z w es (Malformed c) h = refuses c
mild opt z w es (Open r l d n) h = absurd (true_not_false h refl)
mild opt z w es (Progress r s) h = go (named r es)
  where
    go : (o : Option Party) → Mild (Some r) (decide_progress r s o)
    go None = refuses NoSuchCall
    go (Some p) = unless_refused (may_progress p.call.state s) (sets_state s refl)
mild opt z w es (Hold r a) h = go (named r es)
  where
    go : (o : Option Party) → Mild (Some r) (decide_hold r a o)
    go None = refuses NoSuchCall
    go (Some p) = unless_refused (holdable p.call.state && may_hold p.call.auxiliary a) (sets_auxiliary a refl)
mild opt z w es (Release l) h = absurd (true_not_false h refl)
mild opt z w es (Facility r c) h = absurd (true_not_false h refl)
mild opt z w es (Answer l) h = absurd (true_not_false h refl)
mild opt z w es (LegFacility l n c) h = absurd (true_not_false h refl)
mild opt z w es (Inform r c) h = absurd (true_not_false h refl)

mild_judged : (b : Board) (e : Event) → is_malformed_or_names (request e.octets) ≡ true → Mild (reference_named (request e.octets)) (judged b e)
unfolding judged decision
mild_judged b e h = go (ltb e.room 128) (sound b) (mild b.options b.candidate.0 (full b.rows) (taken b.rows) (request e.octets) h)
  where
    go : (x y : Bool) {d : Decision} → Mild (reference_named (request e.octets)) d → Mild (reference_named (request e.octets)) (judge x y d)
    go true y m = refuses BufferTooSmall
    go false true m = m
    go false false m = refuses UnsoundBoard

writes_nothing : {o : Option ℕ} {d : Decision} (rows : List Row) → Mild o d → replies rows d ≡ []
unfolding replies
writes_nothing rows (refuses c) = refl
writes_nothing rows (sets_state s e) = refl
writes_nothing rows (sets_auxiliary a e) = refl

-- ---- two of them, where no reference is named by both

abbrev Apart : (o u : Option ℕ) → Type 0
Apart o u = has_both eqb o u ≡ false

apart_sym : (o u : Option ℕ) → Apart o u → Apart u o
apart_sym None None h = refl
apart_sym None (Some n) h = refl
apart_sym (Some m) None h = refl
apart_sym (Some m) (Some n) h = eqb_sym n m ∙ h

numbers_apart : {o u : Option ℕ} {m n : ℕ} → Apart o u → o ≡ Some m → u ≡ Some n → eqb m n ≡ false
numbers_apart h p q = sym (ap₂ (has_both eqb) p q) ∙ h

-- the one leaves the call that the other names
leaves_named : (b : Board) (r : ℕ) {u : Option ℕ} {d : Decision} → Mild u d → Apart (Some r) u → named r (taken (board_after d b).rows) ≡ named r (taken b.rows)
unfolding board_after rows_after changed_rows row_after
leaves_named b r (refuses c) h = refl
leaves_named b r (sets_state {r = q} s e) h = same_named (record { 0 = q }) (with_state s) (λ c. refl) r (numbers_apart h refl e) b.rows
leaves_named b r (sets_auxiliary {r = q} a e) h = same_named (record { 0 = q }) (with_auxiliary a) (λ c. refl) r (numbers_apart h refl e) b.rows

-- so the same is decided of the other
decides_same : (b : Board) (q : Request) {u : Option ℕ} {d : Decision} → is_malformed_or_names q ≡ true → Mild u d → Apart (reference_named q) u →
    decide (board_after d b).options (board_after d b).candidate.0 (full (board_after d b).rows) (taken (board_after d b).rows) q ≡ decide b.options b.candidate.0 (full b.rows) (taken b.rows) q
unfolding decide
decides_same b (Malformed c) k m h = refl
decides_same b (Open r l d n) k m h = absurd (true_not_false k refl)
decides_same b (Progress r s) k m h = ap (decide_progress r s) (leaves_named b r m h)
decides_same b (Hold r a) k m h = ap (decide_hold r a) (leaves_named b r m h)
decides_same b (Release l) k m h = absurd (true_not_false k refl)
decides_same b (Facility r c) k m h = absurd (true_not_false k refl)
decides_same b (Answer l) k m h = absurd (true_not_false k refl)
decides_same b (LegFacility l n c) k m h = absurd (true_not_false k refl)
decides_same b (Inform r c) k m h = absurd (true_not_false k refl)

-- and the two changes commute
commute : (b : Board) {o u : Option ℕ} {c d : Decision} → Mild o c → Mild u d → Apart o u → board_after d (board_after c b) ≡ board_after c (board_after d b)
unfolding board_after rows_after candidate_after changed_rows row_after
commute b (refuses c) k h = refl
commute b (sets_state s e) (refuses d) h = refl
commute b (sets_auxiliary x e) (refuses d) h = refl
commute b (sets_state s e) (sets_state t f) h = ap (λ (rows : List Row). with_rows rows b) (rows_commute _ _ (with_state s) (with_state t) (λ c. refl) (λ c. refl) (numbers_apart h e f) b.rows)
commute b (sets_state s e) (sets_auxiliary y f) h = ap (λ (rows : List Row). with_rows rows b) (rows_commute _ _ (with_state s) (with_auxiliary y) (λ c. refl) (λ c. refl) (numbers_apart h e f) b.rows)
commute b (sets_auxiliary x e) (sets_state t f) h = ap (λ (rows : List Row). with_rows rows b) (rows_commute _ _ (with_auxiliary x) (with_state t) (λ c. refl) (λ c. refl) (numbers_apart h e f) b.rows)
commute b (sets_auxiliary x e) (sets_auxiliary y f) h = ap (λ (rows : List Row). with_rows rows b) (rows_commute _ _ (with_auxiliary x) (with_auxiliary y) (λ c. refl) (λ c. refl) (numbers_apart h e f) b.rows)

-- ---- the second event, as if it were the first

board_is : (b : Board) (e : Event) → (stepped b e).board ≡ board_after (judged b e) b
board_is b e = ap (λ (o : Outcome). o.board) (step_is b e)

module _ (b : Board) (e f : Event) (e_is : is_malformed_or_names (request e.octets) ≡ true) (f_is : is_malformed_or_names (request f.octets) ≡ true)
    (h : Apart (reference_named (request e.octets)) (reference_named (request f.octets))) where
  judged_same : judged (stepped b f).board e ≡ judged b e
  unfolding judged decision
  judged_same = rw (board_is b f) (ap₂ (judge (ltb e.room 128)) (sound_same b f) (decides_same b (request e.octets) e_is (mild_judged b f f_is) h))

  same_returned : (stepped (stepped b f).board e).returned ≡ (stepped b e).returned
  same_returned = ap (λ (o : Outcome). o.returned) (step_is (stepped b f).board e) ∙ ap returned_by judged_same ∙ sym (ap (λ (o : Outcome). o.returned) (step_is b e))

  no_replies : (x : Board) → (stepped x e).replies ≡ []
  no_replies x = ap (λ (o : Outcome). o.replies) (step_is x e) ∙ writes_nothing x.rows (mild_judged x e e_is)

  board_then : (stepped (stepped b f).board e).board ≡ board_after (judged b e) (board_after (judged b f) b)
  board_then = board_is (stepped b f).board e ∙ ap₂ board_after judged_same (board_is b f)

-- ---- the theorems

pub in_either_order : AskedOfAll
in_either_order b e f t =
    let p = request e.octets in
    let q = request f.octets in
    let h = is_true (unrelated p q) t in
    let names = left (is_malformed_or_names p && is_malformed_or_names q) _ h in
    let x = left (is_malformed_or_names p) _ names in
    let y = right (is_malformed_or_names p) _ names in
    let ef : Apart (reference_named p) (reference_named q) = is_not (right (is_malformed_or_names p && is_malformed_or_names q) _ h) in
    let fe = apart_sym (reference_named p) (reference_named q) ef in
    record {
      e_returned = same_returned b e f x y ef;
      f_returned = same_returned b f e y x fe;
      e_replies = no_replies b e f x y ef (stepped b f).board ∙ sym (no_replies b e f x y ef b);
      f_replies = no_replies b f e y x fe (stepped b e).board ∙ sym (no_replies b f e y x fe b);
      board = board_then b f e y x fe ∙ commute b (mild_judged b e x) (mild_judged b f y) ef ∙ sym (board_then b e f x y ef);
    }

-- a record that names a reference is a Progress or Hold
names_one : (q : Request) {r : ℕ} → reference_named q ≡ Some r → is_malformed_or_names q ≡ true
names_one (Malformed c) e = refl
names_one (Open r l d n) e = cc
names_one (Progress r s) e = refl
names_one (Hold r a) e = refl
names_one (Release l) e = cc
names_one (Facility r c) e = cc
names_one (Answer l) e = cc
names_one (LegFacility l n c) e = cc
names_one (Inform r c) e = cc

pub are_unrelated : {e f : List ℕ} → DifferentReferences e f → T (unrelated (request e) (request f))
are_unrelated {e} {f} d =
    from_true (both (both (names_one (request e) d.e_names) (names_one (request f) d.f_names)) (ap not (ap₂ (has_both eqb) d.e_names d.f_names) ∙ is_true (not (eqb d.of_e d.of_f)) d.differ))

pub asked : Asked
asked b e f s n m d = in_either_order b e f (are_unrelated d)
