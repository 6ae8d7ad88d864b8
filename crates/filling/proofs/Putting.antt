-- Octets put into a buffer one after the other are put there at once. Assumes nothing.
use Prim.Native.Nat.{ℕ, ◌+◌, ◌≤◌}
use native.Mathlib.Nat.{add_assoc, add-zero}
use native.Mathlib.Omega.{arith}
use mathlib.Core.Path.{◌≡◌, refl, sym, ap, ◌∙◌}
use mathlib.Core.List.{List, [], ◌++◌, append_assoc}
use lib.ListN.{length, take, drop, length-append, length-take, take-append-drop}
use lib.Seq.{take_at, drop_at, drop-drop}
use Rattle.octets.specs.Buffers.{written_at}
use Rattle.filling.specs.Code.Putting.{HasRoom, Put, PutGivenRoom}
use Rattle.filling.specs.declared.Filling.{Filling}

-- what lies beyond, by its place
written_beyond : (at : ℕ) (x b : List ℕ) → written_at at x b ≡ take at b ++ (x ++ drop (at + length x) b)
written_beyond at x b = ap (λ (l : List ℕ). take at b ++ (x ++ l)) (drop-drop (length x) at b)

module _ (x y a b c : List ℕ) (at m : ℕ) where
  both_written : at + length x ≤ length a → b ≡ take at a ++ (x ++ drop (at + length x) a) → m ≡ at + length x → c ≡ written_at m y b → c ≡ written_at at (x ++ y) a
  both_written h p l q =
      let e : length (take at a ++ x) ≡ at + length x = simp (length-append, length-take) (omega arith) in
      q
      ∙ rw (
        p,
        l,
        ← append_assoc (take at a) x (drop (at + length x) a),
        take_at (take at a ++ x) (drop (at + length x) a) (at + length x) e,
        drop_at (take at a ++ x) (drop (at + length x) a) (at + length x) e,
        drop-drop (length y) (at + length x) a,
        written_beyond at (x ++ y) a,
        length-append x y,
        add_assoc,
      )
      (simp append_assoc)

pub nothing : (f : Filling) → Put [] f f
nothing f = record { same = refl; is = sym (take-append-drop f.at f.buffer.now); place = sym (add-zero f.at); long = refl }

pub join : {x y : List ℕ} {a b c : Filling} → Put x a b → Put y b c → HasRoom x a → Put (x ++ y) a c
join {x} {y} {a} {b} {c} p q h =
    record {
      same = q.same ∙ p.same;
      is = both_written x y a.buffer.now b.buffer.now c.buffer.now a.at b.at h (p.is ∙ written_beyond a.at x a.buffer.now) p.place q.is;
      place = omega (arith, p.place, q.place, length-append x y);
      long = q.long ∙ p.long;
    }

-- where there is room for both, there is room for each
pub front : (x y : List ℕ) (a : Filling) → HasRoom (x ++ y) a → HasRoom x a
front x y a h = omega (arith, length-append x y, h)

pub rest : {x : List ℕ} (y : List ℕ) {a b : Filling} → Put x a b → HasRoom (x ++ y) a → HasRoom y b
rest {x} y p h = omega (arith, length-append x y, p.place, p.long, h)

pub next : {x y : List ℕ} {a b c : Filling} → Put x a b → PutGivenRoom y b c → PutGivenRoom (x ++ y) a c
next {x} {y} {a} p q h = join p (q (rest y p h)) (front x y a h)

pub both : {x y : List ℕ} {a b c : Filling} → PutGivenRoom x a b → PutGivenRoom y b c → PutGivenRoom (x ++ y) a c
both {x} {y} {a} p q h = next (p (front x y a h)) q h
