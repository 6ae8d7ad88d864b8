-- Octets that are read as an invoke, with nothing behind, are the octets of that invoke. Assumes nothing.
use Rattle.std.specs.Prelude.{None, Option, Some}
use Prim.Native.Nat.{ℕ, ◌%◌, ◌≤◌}
use native.Mathlib.Omega.{arith}
use mathlib.Core.Path.{◌≡◌, refl, sym, ap, ap₂, ◌∙◌, subst}
use mathlib.Core.Bool.{Bool, true, false, ◌&&◌, cond, not}
use mathlib.Core.List.{List, [], ◌∷◌, ◌++◌, append-nil}
use lib.Dec.{eqb, leb, ltb}
use lib.IntN.{pos}
use lib.ListN.{length, take, drop, take-append-drop}
use lib.Seq.{length-take-le}
use borrow.Author.Tests.{leb-true}
use Rattle.octets.specs.declared.IntegerOctets.{IntegerOctets}
use Rattle.octets.specs.declared.IntegerOctets.TheVariants.{One, Two}
use Rattle.octets.specs.Lists.{same_octets}
use Rattle.octets.specs.Numbers.{AreOctets, integer_of, padded, fewest, same_integer}
use Rattle.octets.proofs.Laws.{one_fewest, two_fewest}
use Rattle.octets.proofs.Lists.{left, right, eqb_eq}
use Rattle.octets.proofs.SameInteger.{same_integer_eq}
use Rattle.elements.proofs.ValueLaws.{no_option, unpadded_is}
use Rattle.component.specs.declared.Operation.{Operation}
use Rattle.component.specs.declared.Operation.TheVariants.{EctExecute, ExplicitEctExecute, EctLinkIdRequest}
use Rattle.component.specs.declared.Reading.TheVariants.{Ignored, Rejected, Invoked}
use Rattle.component.specs.declared.Reject.{Reject}
use Rattle.component.specs.declared.Reject.TheVariants.{Null, Invoke}
use Rattle.component.specs.Answers.{element, contents_of, integer}
use Rattle.elements.specs.Elements.{Element, Bad, Whole, valid_head, first_element, whole_elements}
use Rattle.elements.specs.Values.{one_or_two, integer_octets_in, integer_in, object_in, rest_of}
use Rattle.component.specs.Reading.{ect_object}
use Rattle.component.specs.Reading.{link_id_reading, global_reading, object_reading, local_reading, operation_reading}
use Rattle.component.specs.Reading.{identified_reading, identifier_reading, invoke_reading, framed_reading, reading}
use Rattle.invokes.specs.Invokes.{operation_octets, invoke_octets}
use Rattle.invokes.specs.RoundTrip.{looked_at, behind, NothingBehind}

-- ---- the first element, and the octets that it takes

element_front : (s : List ℕ) (tag : ℕ) (c r : List ℕ) → first_element s ≡ Whole tag c r → s ≡ element tag c ++ r
unfolding first_element
element_front [] tag c r q = absurd (let z : ◌≡◌ {A = ℕ} 0 1 = cc in omega arith)
element_front (x ∷ []) tag c r q = absurd (let z : ◌≡◌ {A = ℕ} 0 1 = cc in omega arith)
element_front (x ∷ n ∷ s) tag c r q = go (valid_head x n s) refl q
  where
    go : (b : Bool) → valid_head x n s ≡ b → cond b (Whole x (take n s) (drop n s)) Bad ≡ Whole tag c r → x ∷ n ∷ s ≡ element tag c ++ r
    go true h q =
        let t : x ≡ tag = cc in
        let e : take n s ≡ c = cc in
        let f : drop n s ≡ r = cc in
        let k : n ≤ length s = leb-true n (length s) (right (ltb n 128) (leb n (length s)) (right (not (eqb (x % 32) 31)) (ltb n 128 && leb n (length s)) h)) in
        rw (← t, ← e, ← f, length-take-le n s k, take-append-drop n s)
    go false h q = absurd (let z : ◌≡◌ {A = ℕ} 0 1 = cc in omega arith)

one_or_two_lem : (c : List ℕ) (o : IntegerOctets) → one_or_two c ≡ Some o → c ≡ contents_of o
one_or_two_lem [] o q = no_option q
one_or_two_lem (a ∷ []) o q = let e : One a ≡ o = cc in rw (← e)
one_or_two_lem (a ∷ b ∷ []) o q = let e : Two a b ≡ o = cc in rw (← e)
one_or_two_lem (a ∷ b ∷ d ∷ c) o q = no_option q

integer_front : (s : List ℕ) (o : IntegerOctets) → integer_in (first_element s) ≡ Some o → s ≡ integer o ++ rest_of (first_element s)
integer_front s o q = go (first_element s) refl (unpadded_is (integer_octets_in (first_element s)) o q).0
  where
    go : (e : Element) → first_element s ≡ e → integer_octets_in e ≡ Some o → s ≡ integer o ++ rest_of e
    go Bad f q = no_option q
    go (Whole tag c r) f q = tagged (eqb tag 2) refl q
      where
        tagged : (b : Bool) → eqb tag 2 ≡ b → cond b (one_or_two c) None ≡ Some o → s ≡ integer o ++ r
        tagged true t q = rw (← eqb_eq tag 2 t, ← one_or_two_lem c o q) (element_front s tag c r f)
        tagged false t q = no_option q

object_front : (s x : List ℕ) → object_in (first_element s) ≡ Some x → s ≡ element 0x06 x ++ rest_of (first_element s)
object_front s x q = go (first_element s) refl q
  where
    go : (e : Element) → first_element s ≡ e → object_in e ≡ Some x → s ≡ element 0x06 x ++ rest_of e
    go Bad f q = no_option q
    go (Whole tag c r) f q = tagged (eqb tag 6) (leb 1 (length c)) refl q
      where
        tagged : (b d : Bool) → eqb tag 6 ≡ b → cond (b && d) (Some c) None ≡ Some x → s ≡ element 0x06 x ++ r
        tagged true true t q =
            let e : c ≡ x = cc in
            rw (← eqb_eq tag 6 t, ← e) (element_front s tag c r f)
        tagged true false t q = no_option q
        tagged false d t q = no_option q

-- ---- the contents of an invoke, by what was found in them

-- parts of octets are octets
octets_behind : (x y : List ℕ) → AreOctets (x ++ y) → AreOctets y
octets_behind [] y h = h
octets_behind (a ∷ x) y h = octets_behind x y h.1

fewest_is : (o : IntegerOctets) (y : List ℕ) → AreOctets (integer o ++ y) → padded o ≡ false → o ≡ fewest (integer_of o)
fewest_is (One a) y h p = one_fewest a h.1.1.0
fewest_is (Two a b) y h p = two_fewest a b h.1.1.0 h.1.1.1.0 p

-- an integer that is read has the fewest octets that say it, and octets follow it
module _ (s : List ℕ) (h : AreOctets s) where
  shortest : (o : IntegerOctets) → integer_in (first_element s) ≡ Some o → o ≡ fewest (integer_of o)
  shortest o q = fewest_is o (rest_of (first_element s)) (subst AreOctets (integer_front s o q) h) (unpadded_is (integer_octets_in (first_element s)) o q).1

  behind_integer : (o : IntegerOctets) → integer_in (first_element s) ≡ Some o → AreOctets (rest_of (first_element s))
  behind_integer o q = octets_behind (integer o) (rest_of (first_element s)) (subst AreOctets (integer_front s o q) h)

  behind_object_lem : (x : List ℕ) → object_in (first_element s) ≡ Some x → AreOctets (rest_of (first_element s))
  behind_object_lem x q = octets_behind (element 0x06 x) (rest_of (first_element s)) (subst AreOctets (object_front s x q) h)

same_octets_lem : (x y : List ℕ) → same_octets x y ≡ true → x ≡ y
same_octets_lem [] [] h = refl
same_octets_lem [] (b ∷ y) h = absurd (let z : ◌≡◌ {A = ℕ} 0 1 = cc in omega arith)
same_octets_lem (a ∷ x) [] h = absurd (let z : ◌≡◌ {A = ℕ} 0 1 = cc in omega arith)
same_octets_lem (a ∷ x) (b ∷ y) h = ap₂ (λ (n : ℕ) (l : List ℕ). n ∷ l) (eqb_eq a b (left (eqb a b) (same_octets x y) h)) (same_octets_lem x y (right (eqb a b) (same_octets x y) h))

module _ (c : List ℕ) (h : AreOctets c) (o : IntegerOctets) (f : integer_in (first_element c) ≡ Some o) where
  -- what follows the identifier, and what follows the operation
  abbrev rest : List ℕ
  rest = rest_of (first_element c)

  abbrev last : List ℕ
  last = rest_of (first_element rest)

  octets : AreOctets rest
  octets = behind_integer c h o f

  identified : (x : List ℕ) → rest ≡ x → c ≡ integer (fewest (integer_of o)) ++ x
  identified x e = rw (← shortest c h o f, ← e) (integer_front c o f)

  execute_is : (v : IntegerOctets) → integer_in (first_element rest) ≡ Some v → integer_of v ≡ pos 6 →
      behind 2 c ≡ [] → c ≡ integer (fewest (integer_of o)) ++ operation_octets EctExecute
  execute_is v g six e =
      let w : v ≡ fewest (pos 6) = shortest rest octets v g ∙ ap fewest six in
      identified (operation_octets EctExecute) (integer_front rest v g ∙ rw (e, w))

  request_is : (x : List ℕ) → object_in (first_element rest) ≡ Some x → x ≡ ect_object 0x04 →
      behind 2 c ≡ [] → c ≡ integer (fewest (integer_of o)) ++ operation_octets EctLinkIdRequest
  request_is x g four e = identified (operation_octets EctLinkIdRequest) (object_front rest x g ∙ rw (e, four))

  explicit_is : (x : List ℕ) (v : IntegerOctets) → object_in (first_element rest) ≡ Some x → x ≡ ect_object 0x01 → integer_in (first_element last) ≡ Some v →
      behind 3 c ≡ [] → c ≡ integer (fewest (integer_of o)) ++ operation_octets (ExplicitEctExecute (record { 0 = integer_of v }))
  explicit_is x v g one k e =
      let w : v ≡ fewest (integer_of v) = shortest last (behind_object_lem rest octets x g) v k in
      let l : last ≡ integer (fewest (integer_of v)) = integer_front last v k ∙ ap (λ (t : List ℕ). integer v ++ t) e ∙ append-nil (integer v) ∙ ap integer w in
      identified (operation_octets (ExplicitEctExecute (record { 0 = integer_of v }))) (object_front rest x g ∙ rw (l, one))

-- ---- the contents of an invoke, by what they are read as

no_invoke : {A : Type 0} {r : Reject} {o : IntegerOctets} {op : Operation} → Rejected r ≡ Invoked o op → A
no_invoke e = absurd (let z : ◌≡◌ {A = ℕ} 0 1 = cc in omega arith)

-- contents c that are read as the invoke r: where nothing lies behind, they are its octets
abbrev Octets : List ℕ → IntegerOctets → Operation → Type 0
Octets c o op = behind (looked_at op) c ≡ [] → c ≡ integer (fewest (integer_of o)) ++ operation_octets op

module _ (c : List ℕ) (h : AreOctets c) (i o : IntegerOctets) (op : Operation) (f : integer_in (first_element c) ≡ Some i) where
  -- the same, of the invoke that was found
  found : (op' : Operation) → Octets c i op' → Invoked i op' ≡ Invoked o op → Octets c o op
  found op' h q =
      let e : i ≡ o = cc in
      let g : op' ≡ op = cc in
      subst (λ (y : Operation). Octets c o y) g (subst (λ (y : IntegerOctets). Octets c y op') e h)

  abbrev operation : List ℕ
  operation = rest_of (first_element c)

  local_found : (v : IntegerOctets) → integer_in (first_element operation) ≡ Some v → local_reading i v ≡ Invoked o op → Octets c o op
  local_found v g q = go (same_integer (integer_of v) (pos 6)) refl q
    where
      go : (b : Bool) → same_integer (integer_of v) (pos 6) ≡ b → cond b (Invoked i EctExecute) (Rejected (Invoke i 1)) ≡ Invoked o op → Octets c o op
      go true s q = found EctExecute (execute_is c h i f v g (same_integer_eq (integer_of v) (pos 6) s)) q
      go false s q = no_invoke q

  link_id_found : (x : List ℕ) → object_in (first_element operation) ≡ Some x → x ≡ ect_object 0x01 →
      (l : Option IntegerOctets) → integer_in (first_element (rest_of (first_element operation))) ≡ l → link_id_reading i l ≡ Invoked o op → Octets c o op
  link_id_found x g one None k q = no_invoke q
  link_id_found x g one (Some v) k q = found (ExplicitEctExecute (record { 0 = integer_of v })) (explicit_is c h i f x v g one k) q

  global_found : (x : List ℕ) → object_in (first_element operation) ≡ Some x → global_reading i x (rest_of (first_element operation)) ≡ Invoked o op → Octets c o op
  global_found x g q = go (same_octets x (ect_object 0x01)) (same_octets x (ect_object 0x04)) refl refl q
    where
      go : (b d : Bool) → same_octets x (ect_object 0x01) ≡ b → same_octets x (ect_object 0x04) ≡ d →
          cond b (link_id_reading i (integer_in (first_element (rest_of (first_element operation))))) (cond d (Invoked i EctLinkIdRequest) (Rejected (Invoke i 1))) ≡ Invoked o op → Octets c o op
      go true d s t q = link_id_found x g (same_octets_lem x (ect_object 0x01) s) (integer_in (first_element (rest_of (first_element operation)))) refl q
      go false true s t q = found EctLinkIdRequest (request_is c h i f x g (same_octets_lem x (ect_object 0x04) t)) q
      go false false s t q = no_invoke q

  object_found : (x : Option (List ℕ)) → object_in (first_element operation) ≡ x → object_reading i x (rest_of (first_element operation)) ≡ Invoked o op → Octets c o op
  object_found None g q = no_invoke q
  object_found (Some x) g q = global_found x g q

  operation_found : (v : Option IntegerOctets) → integer_in (first_element operation) ≡ v → operation_reading i v (first_element operation) ≡ Invoked o op → Octets c o op
  operation_found None g q = object_found (object_in (first_element operation)) refl q
  operation_found (Some v) g q = local_found v g q

invoke_found : (c : List ℕ) → AreOctets c → (o : IntegerOctets) (op : Operation) → invoke_reading c ≡ Invoked o op → Octets c o op
unfolding invoke_reading identified_reading
invoke_found c h o op q = go (integer_in (first_element c)) refl q
  where
    go : (x : Option IntegerOctets) → integer_in (first_element c) ≡ x → identifier_reading x (rest_of (first_element c)) ≡ Invoked o op → Octets c o op
    go None f q = no_invoke q
    go (Some i) f q = operation_found c h i o op f (integer_in (first_element (rest_of (first_element c)))) refl q

-- ---- the whole component

framed_found : (s : List ℕ) → AreOctets s → (o : IntegerOctets) (op : Operation) → framed_reading s ≡ Invoked o op → NothingBehind op (0xA1 ∷ s) → 0xA1 ∷ s ≡ invoke_octets op (record { 0 = integer_of o })
unfolding invoke_octets
framed_found [] h o op q p = no_invoke q
framed_found (n ∷ c) h o op q p = go (eqb n (length c)) (whole_elements 4 c) refl q
  where
    go : (b d : Bool) → eqb n (length c) ≡ b → cond (b && d) (invoke_reading c) (Rejected (Null 2)) ≡ Invoked o op → 0xA1 ∷ n ∷ c ≡ element 0xA1 (integer (fewest (integer_of o)) ++ operation_octets op)
    go true true e q = rw (eqb_eq n (length c) e) (ap (element 0xA1) (invoke_found c h.1 o op q p))
    go true false e q = no_invoke q
    go false d e q = no_invoke q

pub read_octets : (s : List ℕ) → AreOctets s → (o : IntegerOctets) (op : Operation) → reading s ≡ Invoked o op → NothingBehind op s → s ≡ invoke_octets op (record { 0 = integer_of o })
unfolding reading
read_octets [] h o op q p = no_invoke q
read_octets (t ∷ s) h o op q p = go (leb 0xA2 t && leb t 0xA4) (eqb t 0xA1) refl q
  where
    go : (b d : Bool) → eqb t 0xA1 ≡ d → cond b Ignored (cond d (framed_reading s) (Rejected (Null 0))) ≡ Invoked o op → t ∷ s ≡ invoke_octets op (record { 0 = integer_of o })
    go true d e q = absurd (let z : ◌≡◌ {A = ℕ} 0 1 = cc in omega arith)
    go false true e q = subst (λ (x : ℕ). NothingBehind op (x ∷ s) → x ∷ s ≡ invoke_octets op (record { 0 = integer_of o })) (sym (eqb_eq t 0xA1 e)) (framed_found s h.1 o op q) p
    go false false e q = no_invoke q
