-- The elements of an answer, put one after the other, are the answer, and put into zeros they are the component. Assumes nothing.
use Prim.Native.Nat.{ℕ, ◌+◌}
use native.Mathlib.Omega.{arith}
use mathlib.Core.Path.{◌≡◌, ap, ◌∙◌}
use mathlib.Core.List.{List, [], ◌∷◌, ◌++◌}
use lib.ListN.{length, replicate, length-append, length-replicate}
use Rattle.std.proofs.lemmas.List.{drop-replicate}
use Rattle.octets.specs.declared.IntegerOctets.{IntegerOctets}
use Rattle.filling.specs.declared.Filling.{Filling}
use Rattle.filling.specs.Code.Putting.{HasRoom, Put, PutGivenRoom, PutIfRoom}
use Rattle.filling.proofs.Putting.{both}
use Rattle.component.specs.declared.Answer.{Answer}
use Rattle.component.specs.Answers.{element, integer, answer_octets, encoded}
use Rattle.component.specs.Reading.{ect_object}
use Rattle.component.specs.Code.Writers.{identified}
use Rattle.component.proofs.Length.{answer_length}

-- the start of an answer
pub start : {a b c : Filling} (tag : ℕ) (i : IntegerOctets) (more : ℕ) {n : ℕ} → n ≡ length (integer i) → PutIfRoom (tag ∷ (n + more) ∷ []) a b → PutIfRoom (integer i) b c
    → PutGivenRoom (identified tag i more) a c
start tag i more e p q = both (rw e at p.put) q.put

-- octets, and an integer behind them
pub then_integer : {a b c : Filling} {x y : List ℕ} (o : IntegerOctets) → PutIfRoom x a b → PutIfRoom (integer o) b c → HasRoom y a → y ≡ x ++ integer o → Put y a c
then_integer o p q h e = rw e (both p.put q.put (rw e at h))

-- octets behind the start of an answer
pub follow : {a b c : Filling} {x y : List ℕ} {tag l : ℕ} (i : IntegerOctets) → (HasRoom (tag ∷ l ∷ integer i) a → Put (tag ∷ l ∷ integer i) a b) → PutIfRoom x b c
    → HasRoom y a → y ≡ tag ∷ l ∷ (integer i ++ x) → Put y a c
follow i p q h e = rw e (both p q.put (rw e at h))

-- a sequence of an object identifier and an integer behind the start of an answer
pub sequence : {a b c d e : Filling} {y : List ℕ} {tag k l m : ℕ} (i o : IntegerOctets) → PutGivenRoom (tag ∷ l ∷ integer i) a b
    → PutIfRoom (0x30 ∷ m ∷ []) b c → PutIfRoom (element 0x06 (ect_object k)) c d → PutIfRoom (integer o) d e
    → l ≡ length (integer i) + (m + 2) → m ≡ 8 + length (integer o) → HasRoom y a
    → y ≡ element tag (integer i ++ element 0x30 (element 0x06 (ect_object k) ++ integer o)) → Put y a e
sequence {k = k} {m = m} i o p q s t u v h e =
    let f : m ≡ length (element 0x06 (ect_object k) ++ integer o) = omega arith in
    let g : _ ≡ length (integer i ++ element 0x30 (element 0x06 (ect_object k) ++ integer o)) = u ∙ omega (arith, length-append (integer i) (element 0x30 (element 0x06 (ect_object k) ++ integer o))) in
    rw e (rw (g, f) at (both p (both q.put (both s.put t.put))) (rw e at h))

-- of an answer, into the zeros of a component
module _ (a : Answer) {f g : Filling} (e : f.buffer.now ≡ replicate 32 0) (z : f.at ≡ 0) where
  pub put : PutGivenRoom (answer_octets a) f g → Put (answer_octets a) f g
  put p = p (omega (arith, z, answer_length a, ap length e, length-replicate {A = ℕ} 32 0))

  pub made : {os : List ℕ} {n : ℕ} → Put (answer_octets a) f g → os ≡ g.buffer.now → n ≡ g.at → record { octets = os; count = n } ≡ encoded a
  unfolding encoded
  made p q l =
      let k : 0 + length (answer_octets a) ≡ length (answer_octets a) = omega arith in
      rw (q, l, p.is, p.place, e, z, drop-replicate, k)

-- for the octets of an answer by value
pub ruleset encoding = (put, made, answer_length)
