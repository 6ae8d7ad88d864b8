-- Columns put octet by octet, from the places where the bodies begin. Assumes nothing.
use Prim.Native.Nat.{ℕ, suc, ◌+◌, ◌-◌, ◌<◌}
use native.Mathlib.Omega.{arith}
use mathlib.Core.Path.{◌≡◌, ◌∙◌, ap, ap₂, refl, subst, sym}
use mathlib.Core.Bool.{true}
use mathlib.Core.List.{◌∷◌, List, Memᴰ, [], map}
use lib.Dec.{ltb}
use lib.ListN.{length, get_or, drop, length-take, length-drop}
use lib.Seq.{get_or-take, get_or-drop}
use Rattle.std.specs.Prelude.{Some, flat_map}
use borrow.Author.Tests.{lt-ltb}
use Rattle.octets.proofs.Lists.{all_by, right, mem_map}
use Rattle.octets.proofs.Loops.{step_at}
use Rattle.filling.specs.declared.Filling.{Filling}
use Rattle.filling.specs.Code.Putting.{PutGivenRoom}
use Rattle.filling.proofs.Putting.{both, nothing}
use Rattle.events.specs.Records.{body_length, records}
use Rattle.events.specs.Code.RecordValues.{front_split}
use Rattle.events.proofs.LogRecords.{front}
use Rattle.log_archives.specs.Regrouping.{kind_of, column, columns}
use Rattle.log_archives.specs.Code.Columns.{body_at, octets_behind, within}

-- ---- by the starts

module _ (kind : ℕ) (log starts : List ℕ) (bodies : List (List ℕ)) (e : map (body_at kind log) starts ≡ bodies) (place : ℕ) (h : place < body_length kind) where
  octet : (start : ℕ) → get_or log (start + place) 0 ≡ get_or (body_at kind log start) place 0
  octet start = sym (get_or-take (body_length kind) (drop start log) place 0 h ∙ get_or-drop start log place 0)

  pub column_behind : octets_behind place log starts ≡ column place bodies
  column_behind = go starts ∙ ap (column place) e
    where
      go : (l : List ℕ) → octets_behind place log l ≡ column place (map (body_at kind log) l)
      go [] = refl
      go (start ∷ l) = ap₂ (λ (o : ℕ) (os : List ℕ). o ∷ os) (octet start) (go l)

  pub bodies_within : ((b : List ℕ) → Memᴰ b bodies → length b ≡ body_length kind) → within place log starts ≡ true
  bodies_within f = all_by (λ (start : ℕ). ltb (start + place) (length log)) starts one
    where
      one : (start : ℕ) → Memᴰ start starts → ltb (start + place) (length log) ≡ true
      one start m =
          let whole = f (body_at kind log start) (subst (Memᴰ (body_at kind log start)) e (mem_map (body_at kind log) m)) in
          lt-ltb (start + place) (length log) (omega (arith, whole, h, length-take (body_length kind) (drop start log), length-drop start log))

-- ---- one after the other

module _ (place : ℕ) (log starts : List ℕ) (i : ℕ) (h : i < length starts) where
  pub later_within : within place log (drop i starts) ≡ true → within place log (drop (i + 1) starts) ≡ true
  later_within e =
      let start = get_or starts i 0 in
      right (ltb (start + place) (length log)) (within place log (drop (i + 1) starts)) (sym (ap (within place log) (step_at starts i 0 h).split) ∙ e)

  pub octet_put : {a b f : Filling} → PutGivenRoom (get_or log (get_or starts i 0 + place) 0 ∷ []) a b → PutGivenRoom (octets_behind place log (drop (i + 1) starts)) b f
      → PutGivenRoom (octets_behind place log (drop i starts)) a f
  octet_put p q = rw (step_at starts i 0 h).split (both p q)

module _ (log r later : List ℕ) (h : Some (r, later) ≡ front_split log) where
  pub kind_put : {a b f : Filling} → PutGivenRoom (kind_of r ∷ []) a b → PutGivenRoom (map kind_of (records later)) b f → PutGivenRoom (map kind_of (records log)) a f
  kind_put p q = rw (front log r later (sym h)).records_are (both p q)

module _ (place n : ℕ) (bodies : List (List ℕ)) where
  pub column_put : place < n → {a b f : Filling} → PutGivenRoom (column place bodies) a b → PutGivenRoom (columns (place + 1) (n - (place + 1)) bodies) b f
      → PutGivenRoom (columns place (n - place) bodies) a f
  unfolding columns
  column_put h p q =
      let more : n - place ≡ suc (n - (place + 1)) = omega arith in
      let next : suc place ≡ place + 1 = omega arith in
      rw (more, next) (both p q)

  pub no_column : (a : Filling) → PutGivenRoom (columns n (n - n) bodies) a a
  unfolding columns
  no_column a =
      let none : n - n ≡ 0 = omega arith in
      rw none (λ _. nothing a)

module _ (put : ℕ → List ℕ) (kinds : List ℕ) (i : ℕ) (h : i < length kinds) where
  pub kinds_put : {a b f : Filling} → PutGivenRoom (put (get_or kinds i 0)) a b → PutGivenRoom (flat_map put (drop (i + 1) kinds)) b f → PutGivenRoom (flat_map put (drop i kinds)) a f
  kinds_put p q = rw (step_at kinds i 0 h).split (both p q)
