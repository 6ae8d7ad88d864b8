-- Where the bodies of a kind begin in a log. Assumes nothing.
use Prim.Native.Nat.{ℕ, ◌+◌, ◌-◌, ◌*◌, ◌≤◌}
use native.Mathlib.Omega.{arith}
use mathlib.Core.Path.{◌≡◌, ◌∙◌, ap, refl, sym, subst}
use mathlib.Core.Bool.{Bool, true, false}
use mathlib.Core.List.{◌∷◌, List, Memᴰ, [], map, ◌++◌, append_assoc, append-nil}
use mathlib.Core.List.Memᴰ
use lib.Dec.{eqb, leb}
use lib.ListN.{length, take, drop, length-append}
use lib.Seq.{take_at, drop_at, drop-drop}
use borrow.Author.Tests.{leb-true, ne_eqb}
use Rattle.std.specs.Prelude.{None, Some}
use Rattle.std.proofs.lemmas.List.{map-append}
use Rattle.octets.specs.Lists.{all, cons_if, filter}
use Rattle.octets.proofs.Lists.{all_at, eqb_eq, eqb_of}
use Rattle.events.specs.Records.{body_length, records}
use Rattle.events.specs.Code.RecordValues.{front_split}
use Rattle.events.proofs.LogRecords.{front, ended}
use Rattle.log_archives.specs.Regrouping.{listed_kinds, kind_of, body_of, bodies_of}
use Rattle.log_archives.specs.Undoing.{listed, well_formed}
use Rattle.log_archives.specs.Code.Columns.{body_at}
use Rattle.log_archives.proofs.Lists.{cut}
use Rattle.log_archives.proofs.Regrouped.{formed}
use Rattle.log_archives.proofs.RecordByRecord.{in_front, first_formed}

-- the shortest body has three octets
three_octets : (kind : ℕ) → listed kind ≡ true → 3 ≤ body_length kind
three_octets kind h =
    let c = cut (eqb kind) listed_kinds h in
    let m : Memᴰ c.here listed_kinds = subst (Memᴰ c.here) (sym c.is) (Memᴰ.append_right c.before (Memᴰ.head refl)) in
    leb-true 3 (body_length kind)
    (ap (λ (k : ℕ). leb 3 (body_length k)) (eqb_eq kind c.here c.passes) ∙ all_at (λ (k : ℕ). leb 3 (body_length k)) m refl)

pub four_octets : (r : List ℕ) → well_formed r ≡ true → 4 ≤ length r
four_octets r h =
    let f = formed r h in
    omega (arith, three_octets (kind_of r) f.is_listed, f.length_of_body, ap length f.is)

-- the starts found in a log before what is left of it
pub record Found (kind : ℕ) (log rest starts : List ℕ) : Type 0 where
  pub shorter : length rest ≤ length log
  pub place : rest ≡ drop (length log - length rest) log
  pub formed : all well_formed (records rest) ≡ true
  pub room : 4 * length starts + length rest ≤ length log
  pub whole : map (body_at kind log) starts ++ bodies_of kind (records rest) ≡ bodies_of kind (records log)

module _ (kind : ℕ) (log : List ℕ) where
  pub none_found : all well_formed (records log) ≡ true → Found kind log log []
  none_found h =
      let z : length log - length log ≡ 0 = omega arith in
      record { shorter = omega arith; place = ap (λ (n : ℕ). drop n log) (sym z); formed = h; room = omega arith; whole = refl }

  pub all_found : (rest starts : List ℕ) → Found kind log rest starts → None ≡ front_split rest → map (body_at kind log) starts ≡ bodies_of kind (records log)
  all_found rest starts f h =
      sym (append-nil (map (body_at kind log) starts))
      ∙ ap (λ (rs : List (List ℕ)). map (body_at kind log) starts ++ bodies_of kind rs) (sym (ended rest (sym h)))
      ∙ f.whole

  module _ (rest r later starts : List ℕ) (f : Found kind log rest starts) (h : Some (r, later) ≡ front_split rest) where
    abbrev pub before : ℕ
    before = length log - length rest

    later_place : later ≡ drop (length log - length later) log
    later_place =
        let p = front rest r later (sym h) in
        let n : before + length r ≡ length log - length later = omega (arith, p.lengths, f.shorter) in
        sym (drop_at r later (length r) refl)
        ∙ ap (drop (length r)) (sym (in_front rest r later h) ∙ f.place)
        ∙ drop-drop (length r) before log
        ∙ ap (λ (n : ℕ). drop n log) n

    first_body : kind_of r ≡ kind → body_at kind log (before + 1) ≡ body_of r
    first_body e =
        let w = formed r (first_formed rest r later h f.formed).0 in
        let o : rest ≡ kind_of r ∷ (body_of r ++ later) = in_front rest r later h ∙ ap (λ (l : List ℕ). l ++ later) (sym w.is) in
        ap (take (body_length kind)) (sym (drop-drop 1 before log) ∙ ap (drop 1) (sym f.place ∙ o))
        ∙ take_at (body_of r) later (body_length kind) (w.length_of_body ∙ ap body_length e)

    step : (more : List ℕ) → length more ≤ 1 → map (body_at kind log) more ++ bodies_of kind (records later) ≡ bodies_of kind (records rest) → Found kind log later (starts ++ more)
    step more n e =
        let p = front rest r later (sym h) in
        let four = four_octets r (first_formed rest r later h f.formed).0 in
        record {
          shorter = omega (arith, p.lengths, f.shorter);
          place = later_place;
          formed = (first_formed rest r later h f.formed).1;
          room = omega (arith, p.lengths, f.room, four, length-append starts more, n);
          whole =
              ap (λ (bs : List (List ℕ)). bs ++ bodies_of kind (records later)) (map-append (body_at kind log) starts more)
              ∙ append_assoc (map (body_at kind log) starts) (map (body_at kind log) more) (bodies_of kind (records later))
              ∙ ap (λ (bs : List (List ℕ)). map (body_at kind log) starts ++ bs) e
              ∙ f.whole;
        }

    first_of_rest : (b : Bool) → eqb (kind_of r) kind ≡ b → bodies_of kind (records rest) ≡ map body_of (cons_if b r (filter (λ (q : List ℕ). eqb (kind_of q) kind) (records later)))
    first_of_rest b e =
        ap (bodies_of kind) (front rest r later (sym h)).records_are
        ∙ ap (λ (t : Bool). map body_of (cons_if t r (filter (λ (q : List ℕ). eqb (kind_of q) kind) (records later)))) e

    pub one_found : kind_of r ≡ kind → Found kind log later (starts ++ ((before + 1) ∷ []))
    one_found e =
        step ((before + 1) ∷ []) (omega arith)
        (ap (λ (b : List ℕ). b ∷ bodies_of kind (records later)) (first_body e) ∙ sym (first_of_rest true (eqb_of (kind_of r) kind e)))

    pub other_kind : (kind_of r ≡ kind → ⊥) → Found kind log later starts
    other_kind n = subst (Found kind log later) (append-nil starts) (step [] (omega arith) (sym (first_of_rest false (ne_eqb (kind_of r) kind n))))
