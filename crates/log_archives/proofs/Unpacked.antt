-- What comes of the parts of an archive. Assumes nothing.
use Prim.Native.Nat.{ℕ, ◌+◌, ◌≤◌, ◌<◌}
use native.Mathlib.Omega.{arith}
use mathlib.Core.Path.{◌≡◌, refl, ap, sym, ◌∙◌}
use mathlib.Core.Bool.{Bool, true, false, ◌&&◌, cond}
use mathlib.Core.List.{List}
use lib.Dec.{eqb, leb}
use lib.ListN.{length, take, drop, length-append, length-take, length-drop}
use borrow.Author.Tests.{le-leb, lt-leb}
use Rattle.std.proofs.Common.{◌≢◌}
use Rattle.std.specs.Prelude.{None, Option, Some, Ok, Err}
use Rattle.octets.specs.Lists.{all}
use Rattle.octets.proofs.Lists.{eqb_eq, eqb_of}
use Rattle.octets.specs.Numbers.{number_of}
use Rattle.filling.specs.declared.Filling.{Filling}
use Rattle.filling.specs.Code.Putting.{HasRoom, Put}
use Rattle.log_archives.specs.declared.BadRecord.{BadRecord}
use Rattle.log_archives.specs.declared.NotRegrouped.TheVariants.{Unfit, CutShort, UnknownKind, BodiesDisagree, Bad, TargetTooSmall}
use Rattle.log_archives.specs.declared.unpacking.Undone.{Undone}
use Rattle.log_archives.specs.Regrouping.{listed_kinds}
use Rattle.log_archives.specs.Undoing.{listed, octets_of, undone_records}
use Rattle.log_archives.specs.Judging.{fit, first_bad, first_unknown, log_of, unpacked_records, unpacked_kinds, unpacked_counted, unpacked}
use Rattle.log_archives.specs.Contract.{Regroups}
use Rattle.log_archives.specs.Code.Tables.{Begun, records_in, joined}
use Rattle.log_archives.specs.Code.Unpacking.{kinds_counted}
use Rattle.log_archives.proofs.Regrouped.{regrouped_records, archive_length}

-- ---- the log is as long as the kinds and the bodies

undone_length : (ks os : List ℕ) → all listed ks ≡ true → length os ≡ octets_of listed_kinds ks → length (joined (undone_records ks os)) ≡ length ks + length os
undone_length ks os h e =
    let r = regrouped_records ks os h e in
    sym (archive_length (undone_records ks os) r.records) ∙ ap length (rw (r.kinds, r.bodies) refl) ∙ length-append ks os

pub begun_length : (u : Undone) → Begun u.kinds.now u.bodies.now u → length (joined (records_in u)) ≡ length u.kinds.now + length u.bodies.now
begun_length u b = ap (λ (rs : List (List ℕ)). length (joined rs)) b.records ∙ undone_length u.kinds.now u.bodies.now b.in_reach.kinds b.agrees

-- ---- the records

module _ (front : List ℕ) (rs : List (List ℕ)) (before : List ℕ) where
  pub bad_refused : (bad : BadRecord) → Some bad ≡ first_bad 0 rs → Regroups (unpacked_records front rs (length before)) before (Err (Bad bad)) before
  unfolding unpacked_records
  bad_refused bad e = record { answer = rw (← e); target = rw (← e) }

  module _ (e : None ≡ first_bad 0 rs) (n : ℕ) (l : length (joined rs) ≡ n) where
    pub small_refused : length before < n + length front → Regroups (unpacked_records front rs (length before)) before (Err TargetTooSmall) before
    unfolding unpacked_records
    small_refused h =
        let t : leb (length (log_of front rs)) (length before) ≡ false = lt-leb (length (log_of front rs)) (length before) (omega (arith, length-append front (joined rs))) in
        record { answer = rw (← e, t); target = rw (← e, t) }

    pub room : (f : Filling) → f.at ≡ 0 → f.buffer.now ≡ before → n + length front ≤ length before → HasRoom (log_of front rs) f
    room f z b h = omega (arith, ap length b, length-append front (joined rs))

    pub all_put : {f g : Filling} {b : List ℕ} {m : ℕ} → n + length front ≤ length before → f.buffer.now ≡ before → f.at ≡ 0
        → Put (log_of front rs) f g → b ≡ g.buffer.now → m ≡ g.at → Regroups (unpacked_records front rs (length before)) before (Ok m) b
    unfolding unpacked_records
    all_put {f} {g} {b} {m} h k z p q w =
        let os = log_of front rs in
        let c : m ≡ length os = omega arith in
        let t : leb (length os) (length before) ≡ true = le-leb (length os) (length before) (omega (arith, length-append front (joined rs))) in
        record { answer = rw (← e, t) (ap (λ (k : ℕ). Ok k) c); target = rw (← e, t, q, p.is, k, z) }

-- ---- the kinds and the bodies

module _ (front ks os before : List ℕ) where
  pub unknown_refused : (n : ℕ) → Some n ≡ first_unknown 0 ks → Regroups (unpacked_kinds front ks os (length before)) before (Err (UnknownKind n)) before
  unfolding unpacked_kinds
  unknown_refused n e = record { answer = rw (← e); target = rw (← e) }

  module _ (e : None ≡ first_unknown 0 ks) where
    pub bodies_refused : length os ≢ octets_of listed_kinds ks → Regroups (unpacked_kinds front ks os (length before)) before (Err BodiesDisagree) before
    unfolding unpacked_kinds
    bodies_refused h = go (eqb (length os) (octets_of listed_kinds ks)) refl
      where
        go : (t : Bool) → eqb (length os) (octets_of listed_kinds ks) ≡ t → Regroups (unpacked_kinds front ks os (length before)) before (Err BodiesDisagree) before
        go true f = absurd (h (eqb_eq _ _ f))
        go false f = record { answer = rw (← e, f); target = rw (← e, f) }

    pub past_kinds : length os ≡ octets_of listed_kinds ks → unpacked_kinds front ks os (length before) ≡ unpacked_records front (undone_records ks os) (length before)
    unfolding unpacked_kinds
    past_kinds h = let t : eqb (length os) (octets_of listed_kinds ks) ≡ true = eqb_of _ _ h in rw (← e, t)

-- ---- the count

module _ (front counted before : List ℕ) where
  abbrev n : ℕ
  n = number_of (take 4 counted)

  -- what splitting gives, by whether the count and the kinds are there
  abbrev parts : Bool → Option (List ℕ × List ℕ)
  parts t = cond t (Some (take n (drop 4 counted), drop n (drop 4 counted))) None

  pub cut_refused : None ≡ kinds_counted counted → Regroups (unpacked_counted front counted (length before)) before (Err CutShort) before
  unfolding unpacked_counted
  cut_refused e = go (leb 4 (length counted) && leb n (length (drop 4 counted))) e refl
    where
      go : (t : Bool) → None ≡ parts t → (leb 4 (length counted) && leb n (length (drop 4 counted))) ≡ t →
          Regroups (unpacked_counted front counted (length before)) before (Err CutShort) before
      go true e f = absurd (let z : ◌≡◌ {A = ℕ} 0 1 = cc in omega arith)
      go false e f = record { answer = rw f; target = rw f }

  pub record Counted (ks os : List ℕ) : Type 0 where
    pub is : unpacked_counted front counted (length before) ≡ unpacked_kinds front ks os (length before)
    pub within : length ks ≤ length counted

  pub past_count : (ks os : List ℕ) → ◌≡◌ {A = Option (List ℕ × List ℕ)} (Some (ks, os)) (kinds_counted counted) → Counted ks os
  unfolding unpacked_counted
  past_count ks os e = go (leb 4 (length counted) && leb n (length (drop 4 counted))) e refl
    where
      go : (t : Bool) → ◌≡◌ {A = Option (List ℕ × List ℕ)} (Some (ks, os)) (parts t) → (leb 4 (length counted) && leb n (length (drop 4 counted))) ≡ t → Counted ks os
      go true e f =
          let p : ◌≡◌ {A = List ℕ × List ℕ} (ks, os) (take n (drop 4 counted), drop n (drop 4 counted)) = cc in
          let k = ap (λ (q : List ℕ × List ℕ). q.0) p in
          let o = ap (λ (q : List ℕ × List ℕ). q.1) p in
          record {
            is = rw (f, k, o);
            within = omega (arith, ap length k, length-take n (drop 4 counted), length-drop 4 counted);
          }
      go false e f = absurd (let z : ◌≡◌ {A = ℕ} 0 1 = cc in omega arith)

-- ---- the whole archive

module _ (archive before : List ℕ) where
  pub unfit_refused : false ≡ fit 65540 archive → Regroups (unpacked archive (length before)) before (Err Unfit) before
  unfolding unpacked
  unfit_refused e = record { answer = rw (← e); target = rw (← e) }

  pub past_fit : true ≡ fit 65540 archive → unpacked archive (length before) ≡ unpacked_counted (take 2 archive) (drop 2 archive) (length before)
  unfolding unpacked
  past_fit e = rw (← e)
