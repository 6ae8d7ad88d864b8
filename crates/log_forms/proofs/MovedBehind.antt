-- What a judged log comes to, put behind other octets, and a whole one. Assumes nothing.
use Prim.Native.Nat.{ℕ, ◌+◌, ◌≤◌, ◌<◌}
use native.Mathlib.Omega.{arith}
use mathlib.Core.Path.{◌≡◌, refl, ap, ◌∙◌}
use mathlib.Core.Bool.{Bool, true, false}
use mathlib.Core.List.{List, [], ◌∷◌, ◌++◌}
use lib.Dec.{leb}
use lib.ListN.{length, get_or, take, drop, length-append}
use borrow.Author.Tests.{le-leb, lt-leb}
use Rattle.std.specs.Prelude.{None, Option, Some, Ok, Err}
use Rattle.board.specs.Making.{options}
use Rattle.board.specs.Soundness.{valid_options}
use Rattle.events.specs.Records.{records}
use Rattle.filling.specs.declared.Filling.{Filling}
use Rattle.filling.specs.Code.Putting.{HasRoom, Put}
use Rattle.log_forms.specs.declared.Form.{Form}
use Rattle.log_forms.specs.declared.BadRecord.{BadRecord}
use Rattle.log_forms.specs.declared.NotMoved.{NotMoved}
use Rattle.log_forms.specs.declared.NotMoved.TheVariants.{Bad, BadOptions, TargetTooSmall}
use Rattle.log_forms.specs.Moving.{moved_records, first_bad, moved_behind, moved_log}
use Rattle.log_forms.specs.Contract.{Moves}
use Rattle.log_forms.specs.Code.Judging.{bad_or, judged}

module _ (form : Form) (rs : List (List ℕ)) where
  -- what an answer says of the log
  found_bad : (why : NotMoved) → Err why ≡ judged form 0 0 rs → (bad : BadRecord) × (first_bad form 0 rs ≡ Some bad) × (why ≡ Bad bad)
  found_bad why e = go (first_bad form 0 rs) refl e
    where
      go : (o : Option BadRecord) → first_bad form 0 rs ≡ o → Err why ≡ bad_or o (0 + length (moved_records form rs)) → (bad : BadRecord) × (first_bad form 0 rs ≡ Some bad) × (why ≡ Bad bad)
      go None h e = absurd (let z : ◌≡◌ {A = ℕ} 0 1 = cc in omega arith)
      go (Some b) h e = (b, h, cc)

  found_good : (n : ℕ) → Ok n ≡ judged form 0 0 rs → (first_bad form 0 rs ≡ None) × (n ≡ length (moved_records form rs))
  found_good n e = go (first_bad form 0 rs) refl e
    where
      go : (o : Option BadRecord) → first_bad form 0 rs ≡ o → Ok n ≡ bad_or o (0 + length (moved_records form rs)) → (first_bad form 0 rs ≡ None) × (n ≡ length (moved_records form rs))
      go None h e = let k : n ≡ 0 + length (moved_records form rs) = cc in (h, omega arith)
      go (Some b) h e = absurd (let z : ◌≡◌ {A = ℕ} 0 1 = cc in omega arith)

  module _ (front before : List ℕ) where
    pub bad_refused : (why : NotMoved) → Err why ≡ judged form 0 0 rs → Moves (moved_behind form front rs (length before)) before (Err why) before
    unfolding moved_behind
    bad_refused why e = let b = found_bad why e in record { answer = rw b.1 (ap (λ (x : NotMoved). Err x) b.2); target = rw b.1 }

    module _ (n : ℕ) (e : Ok n ≡ judged form 0 0 rs) where
      pub small_refused : length before < n + length front → Moves (moved_behind form front rs (length before)) before (Err TargetTooSmall) before
      unfolding moved_behind
      small_refused h =
          let g = found_good n e in
          let l : leb (length (front ++ moved_records form rs)) (length before) ≡ false = lt-leb (length (front ++ moved_records form rs)) (length before) (omega (arith, length-append front (moved_records form rs), g.1)) in
          record { answer = rw (g.0, l); target = rw (g.0, l) }

      pub room : (f : Filling) → f.at ≡ 0 → f.buffer.now ≡ before → n + length front ≤ length before → HasRoom (front ++ moved_records form rs) f
      room f z b h = let g = found_good n e in omega (arith, z, ap length b, h, length-append front (moved_records form rs), g.1)

      pub all_moved : {f g : Filling} {b : List ℕ} {m : ℕ} → n + length front ≤ length before → f.buffer.now ≡ before → f.at ≡ 0
          → Put (front ++ moved_records form rs) f g → b ≡ g.buffer.now → m ≡ g.at → Moves (moved_behind form front rs (length before)) before (Ok m) b
      unfolding moved_behind
      all_moved {f} {g} {b} {m} h k z p q w =
          let d = found_good n e in
          let os = front ++ moved_records form rs in
          let c : m ≡ length os = omega arith in
          let t : leb (length os) (length before) ≡ true = le-leb (length os) (length before) (omega (arith, h, length-append front (moved_records form rs), d.1)) in
          record { answer = rw (d.0, t) (ap (λ (k : ℕ). Ok k) c); target = rw (d.0, t, q, p.is, k, z) }

-- ---- a whole log

module _ (form : Form) (log before : List ℕ) where
  pub short_refused : length log < 2 → Moves (moved_log form log (length before)) before (Err BadOptions) before
  unfolding moved_log
  short_refused = go log
    where
      go : (l : List ℕ) → length l < 2 → Moves (moved_log form l (length before)) before (Err BadOptions) before
      go [] h = record { answer = refl; target = refl }
      go (s ∷ []) h = record { answer = refl; target = refl }
      go (s ∷ a ∷ l) h = absurd (omega arith)

  module _ (os later : List ℕ) (p : (os ≡ take 2 log) × (later ≡ drop 2 log) × (length later + 2 ≡ length log)) where
    test : (b : Bool) → b ≡ valid_options (options (get_or os 0 0) (get_or os 1 0)) → b ≡ valid_options (options (get_or (take 2 log) 0 0) (get_or (take 2 log) 1 0))
    test b e = e ∙ ap (λ (l : List ℕ). valid_options (options (get_or l 0 0) (get_or l 1 0))) p.0

    pub options_refused : false ≡ valid_options (options (get_or os 0 0) (get_or os 1 0)) → Moves (moved_log form log (length before)) before (Err BadOptions) before
    unfolding moved_log
    options_refused e = go log (test false e)
      where
        go : (l : List ℕ) → false ≡ valid_options (options (get_or (take 2 l) 0 0) (get_or (take 2 l) 1 0)) → Moves (moved_log form l (length before)) before (Err BadOptions) before
        go [] h = record { answer = refl; target = refl }
        go (s ∷ []) h = record { answer = refl; target = refl }
        go (s ∷ a ∷ l) h = record { answer = rw (← h); target = rw (← h) }

    pub past_options : true ≡ valid_options (options (get_or os 0 0) (get_or os 1 0)) → moved_log form log (length before) ≡ moved_behind form os (records later) (length before)
    unfolding moved_log
    past_options e = go log (omega (arith, p.2)) (test true e) ∙ rw (p.0, p.1)
      where
        go : (l : List ℕ) → 2 ≤ length l → true ≡ valid_options (options (get_or (take 2 l) 0 0) (get_or (take 2 l) 1 0)) → moved_log form l (length before) ≡ moved_behind form (take 2 l) (records (drop 2 l)) (length before)
        go [] h e = absurd (omega arith)
        go (s ∷ []) h e = absurd (omega arith)
        go (s ∷ a ∷ l) h e = rw (← e)
