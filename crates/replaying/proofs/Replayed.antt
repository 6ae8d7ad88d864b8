-- A log and its moved form replay alike: over the contracts of `step` and of the two moves. Assumes nothing.
use Prim.Native.Nat.{ℕ, ◌+◌, ◌<◌}
use native.Mathlib.Omega.{arith}
use mathlib.Core.Path.{◌≡◌, ◌∙◌, ap, ap₂, refl, sym, subst}
use mathlib.Core.Bool.{Bool, true, false, cond}
use mathlib.Core.List.{List, [], ◌∷◌, map}
use lib.Dec.{leb}
use lib.Seq.{take_at}
use lib.ListN.{length, take, drop}
use Rattle.std.specs.Prelude.{None, Option, Some, Result, Ok, Err}
use Rattle.board.specs.Making.{ForOldLog, options, takes}
use Rattle.log_forms.specs.declared.Form.TheVariants.{Old, New}
use Rattle.board.specs.declared.Board.{Board}
use Rattle.events.specs.EventRecords.{request}
use Rattle.events.specs.Records.{records}
use Rattle.rules.specs.Replies.{octets}
use Rattle.rules.specs.Step.{Outcome, step, step_tested, decision}
use Rattle.ect.specs.CallHistory.{StepCall, last_board, number_returned, written, event_of}
use Rattle.rules.specs.History.{stepped}
use Rattle.ect.proofs.CallHistory.{StepContractMet, Chain, outcome, replies_are}
use Rattle.log_forms.specs.declared.Form.{Form}
use Rattle.log_forms.specs.Moving.{moved_records, moved_log, moved_behind, unless_bad, moved_record, first_bad}
use Rattle.log_forms.proofs.MovedRecords.{no_fault}
use Rattle.log_forms.proofs.SameRequests.{same_request, records_moved}
use Rattle.events.proofs.RefusalNumbers.{refusal_not_zero}
use Rattle.log_forms.specs.declared.BadRecord.{BadRecord}
use Rattle.log_forms.specs.declared.Fault.{Fault}
use Rattle.log_forms.specs.declared.Fault.TheVariants.{Unreadable, NoOldForm}
use Rattle.log_forms.specs.declared.NotMoved.{NotMoved}
use Rattle.log_forms.specs.declared.NotMoved.TheVariants.{BadOptions, Bad, TargetTooSmall}
use Rattle.log_forms.specs.Contract.{Moves, fault_number, not_moved_number, answer_number, answer_count}
use Rattle.log_forms.specs.MoveCalls.{MoveCall, option_octets, behind_options, move_number, move_written}
use Rattle.log_forms.proofs.ThereAndBack.{NewMet, OldMet}
use Rattle.replaying.specs.Replaying.{PlaysLog, event_octets, buffer_lengths, Replayed}

-- an event is stepped by what its record asks for
same_step : (b : Board) (x y : List ℕ) (room : ℕ) → request x ≡ request y → step b x room ≡ step b y room
unfolding step step_tested decision
same_step b x y room e = rw e

-- ---- one record, on the same board and with buffers of one length

module _ (b : Board) (c d : StepCall) (h : StepContractMet b c) (k : StepContractMet b d) (same : request c.event ≡ request d.event) (rooms : length c.before ≡ length d.before) where
  one : stepped b (event_of c) ≡ stepped b (event_of d)
  one = same_step b c.event d.event (length c.before) same ∙ ap (step b d.event) rooms

  same_number : number_returned c ≡ number_returned d
  same_number = (outcome h).answer ∙ ap (λ (o : Outcome). o.returned) one ∙ sym (outcome k).answer

  same_board : c.returned.board ≡ d.returned.board
  same_board = (outcome h).board ∙ ap (λ (o : Outcome). o.board) one ∙ sym (outcome k).board

  same_replies : written c ≡ written d
  same_replies = replies_are (outcome h) ∙ ap (λ (o : Outcome). octets o.replies) one ∙ sym (replies_are (outcome k))

-- ---- all of them

module _ (form : Form) where
  replay : (b : Board) (n : ℕ) (rs : List (List ℕ)) (cs ds : List StepCall) → first_bad form n rs ≡ None → map event_octets cs ≡ rs
      → map event_octets ds ≡ map (moved_record form) rs → buffer_lengths cs ≡ buffer_lengths ds → Chain b cs → Chain b ds → Replayed b cs ds
  unfolding Chain last_board
  replay b n rs [] [] f p q l h k = record { numbers = refl; boards = refl; replies = refl; last = refl }
  replay b n rs [] (d ∷ ds) f p q l h k = absurd (let z = ap length l in omega arith)
  replay b n rs (c ∷ cs) [] f p q l h k = absurd (let z = ap length l in omega arith)
  replay b n [] (c ∷ cs) (d ∷ ds) f p q l h k = absurd (let z = ap length p in omega arith)
  replay b n (r ∷ rs) (c ∷ cs) (d ∷ ds) f p q l h k =
      let g = no_fault form n r rs f in
      let p₀ : c.event ≡ r = cc in
      let q₀ : d.event ≡ moved_record form r = cc in
      let l₀ : length c.before ≡ length d.before = cc in
      let p₁ : map event_octets cs ≡ rs = cc in
      let q₁ : map event_octets ds ≡ map (moved_record form) rs = cc in
      let l₁ : buffer_lengths cs ≡ buffer_lengths ds = cc in
      let same : request c.event ≡ request d.event = ap request p₀ ∙ sym (ap request q₀ ∙ same_request form r g.0) in
      let board = same_board b c d h.0 k.0 same l₀ in
      let later = replay c.returned.board (n + 1) rs cs ds g.1 p₁ q₁ l₁ h.1 (subst (λ (x : Board). Chain x ds) (sym board) k.1) in
      record {
        numbers = ap₂ (λ (x : ℕ) (xs : List ℕ). x ∷ xs) (same_number b c d h.0 k.0 same l₀) later.numbers;
        boards = ap₂ (λ (x : Board) (xs : List Board). x ∷ xs) board later.boards;
        replies = ap₂ (λ (x : List ℕ) (xs : List (List ℕ)). x ∷ xs) (same_replies b c d h.0 k.0 same l₀) later.replies;
        last = later.last ∙ ap (λ (x : Board). last_board x ds) board;
      }

-- ---- a log that was moved: it has no bad record, and what was written is its moved form

record WasMoved (form : Form) (log octets : List ℕ) : Type 0 where
  faultless : first_bad form 0 (records (behind_options log)) ≡ None
  behind : behind_options octets ≡ moved_records form (records (behind_options log))
  options_stay : option_octets octets ≡ option_octets log

not_0 : (e : NotMoved) → 0 < not_moved_number e
not_0 BadOptions = omega arith
not_0 TargetTooSmall = omega arith
not_0 (Bad b) = of_fault b.fault
  where
    of_fault : (f : Fault) → 0 < fault_number f
    of_fault (Unreadable c) = refusal_not_zero c
    of_fault NoOldForm = omega arith

module _ (form : Form) (before after : List ℕ) (r : Result ℕ NotMoved) (z : answer_number r ≡ 0) where
  refused : {A : Type 0} (e : NotMoved) → Moves (Err e) before r after → A
  refused e m = absurd (omega (arith, not_0 e, z, ap answer_number m.answer))

  was_moved : (log : List ℕ) → Moves (moved_log form log (length before)) before r after → WasMoved form log (take (answer_count r) after)
  unfolding moved_log moved_behind
  was_moved [] m = refused BadOptions m
  was_moved (s ∷ []) m = refused BadOptions m
  was_moved (s ∷ a ∷ later) m = go (takes ForOldLog (options s a)) (first_bad form 0 (records later)) (leb (length os) (length before)) refl m
    where
      os : List ℕ
      os = s ∷ a ∷ moved_records form (records later)

      go : (v : Bool) (o : Option BadRecord) (t : Bool) → first_bad form 0 (records later) ≡ o →
          Moves (cond v (unless_bad o (cond t (Ok os) (Err TargetTooSmall))) (Err BadOptions)) before r after → WasMoved form (s ∷ a ∷ later) (take (answer_count r) after)
      go false o t e m = refused BadOptions m
      go true (Some b) t e m = refused (Bad b) m
      go true None false e m = refused TargetTooSmall m
      go true None true e m =
          let w : take (answer_count r) after ≡ os = ap₂ take (ap answer_count m.answer) m.target ∙ take_at os (drop (length os) before) (length os) refl in
          record { faultless = e; behind = ap behind_options w; options_stay = ap option_octets w }

-- ---- the theorem, of each move

module _ (b : Board) (calls moved : List StepCall) where
  alike : (form : Form) (log octets : List ℕ) → WasMoved form log octets → PlaysLog log calls → PlaysLog octets moved → buffer_lengths calls ≡ buffer_lengths moved
      → Chain b calls → Chain b moved → Replayed b calls moved
  alike form log octets w p q l h k =
      let rs = records (behind_options log) in
      replay form b 0 rs calls moved w.faultless p (q ∙ ap records w.behind ∙ records_moved form 0 rs w.faultless) l h k

  -- a log that was moved, and what was written, which has the same options: "played from a fresh board of its options with the same buffer lengths",
  -- and from any other
  pub replayed_new : {m : MoveCall} → NewMet m → move_number m ≡ 0 → PlaysLog m.log calls → PlaysLog (move_written m) moved → buffer_lengths calls ≡ buffer_lengths moved
      → Chain b calls → Chain b moved → (option_octets (move_written m) ≡ option_octets m.log) × Replayed b calls moved
  replayed_new {m} c z p q l h k = let w = was_moved New m.before m.after m.returned z m.log c.met in (w.options_stay, alike New m.log (move_written m) w p q l h k)

  pub replayed_old : {m : MoveCall} → OldMet m → move_number m ≡ 0 → PlaysLog m.log calls → PlaysLog (move_written m) moved → buffer_lengths calls ≡ buffer_lengths moved
      → Chain b calls → Chain b moved → (option_octets (move_written m) ≡ option_octets m.log) × Replayed b calls moved
  replayed_old {m} c z p q l h k = let w = was_moved Old m.before m.after m.returned z m.log c.met in (w.options_stay, alike Old m.log (move_written m) w p q l h k)
