-- Written and read back, read and written back: over the contracts of `write_invoke` and of `component::read`. Assumes nothing.
use Prim.{tt}
use Rattle.std.specs.Prelude.{Result}
use Prim.Native.Nat.{ℕ, ◌≤◌, ◌<◌}
use native.Mathlib.Omega.{arith}
use mathlib.Core.Path.{◌≡◌, refl, sym, ap, ap₂, ◌∙◌}
use mathlib.Core.Bool.{false}
use mathlib.Core.List.{List, ◌++◌}
use lib.IntN.{ℤ, pos, negsuc}
use lib.ListN.{length, take, drop}
use lib.Signed.{mag}
use lib.Seq.{take_at}
use base.Fml.{GName}
use contract.Lifetimes.{Lfts}
use borrow.Author.Tests.{le-ltb}
use Rattle.octets.specs.declared.IntegerOctets.{IntegerOctets}
use Rattle.octets.specs.declared.IntegerOctets.TheVariants.{One, Two}
use Rattle.octets.specs.declared.InvokeIdentifier.{InvokeIdentifier}
use Rattle.octets.specs.Numbers.{AreOctets, integer_of, padded, fewest, InInt16Range}
use Rattle.octets.proofs.Laws.{integer_fewest, fewest_unpadded}
use Rattle.octets.proofs.Lent.{lent}
use Rattle.component.specs.declared.Operation.{Operation}
use Rattle.component.specs.declared.Operation.TheVariants.{EctExecute, ExplicitEctExecute, EctLinkIdRequest}
use Rattle.component.specs.declared.Reading.{Reading}
use Rattle.component.specs.declared.Reading.TheVariants.{Invoked}
use Rattle.component.specs.Answers.{element, integer}
use Rattle.elements.specs.Elements.{first_element, whole_elements, siblings}
use Rattle.component.specs.Reading.{ect_object, reading, invoke_reading, identified_reading}
use Rattle.invokes.specs.declared.BufferTooSmall.{BufferTooSmall}
use Rattle.invokes.specs.Invokes.{invoke_octets}
use Rattle.invokes.specs.Contract.{answer_number, answer_count}
use Rattle.invokes.specs.RoundTrip.{OperationInRange, ReadAs, NothingBehind}
use Rattle.invokes.proofs.ReadInvokes.{read_octets}
use Rattle.component.proofs.Promises.{ReadMet, read_promise}
use Rattle.invokes.proofs.write_invoke.Reads as write-contract

-- ---- the premise beside `ReadMet`: a call of the writer that met its contract

-- `write_invoke` was lent a buffer, returned w, and left the buffer as `after`
pub record WriteMet (op : Operation) (i : InvokeIdentifier) (before : List ℕ) (w : Result ℕ BufferTooSmall) (after : List ℕ) : Type 0 where
  pub lifetimes : Lfts 1
  pub buffer_at : (ℕ × ℕ) × GName
  pub met : write-contract.Post lifetimes (op, (i, (lent buffer_at before, tt))) w (op, (i, (lent buffer_at after, tt)))

-- ---- what the writer left

module _ {op : Operation} {i : InvokeIdentifier} {before after : List ℕ} {w : Result ℕ BufferTooSmall} (h : 32 ≤ length before) (p : WriteMet op i before w after) where
  -- it wrote, and the octets that its answer counts are the invoke's
  pub accepted : answer_number w ≡ 0
  accepted = p.met.answer ∙ rw (le-ltb (length before) 32 h)

  pub octets_are : take (answer_count w) after ≡ invoke_octets op i
  octets_are =
      let os = invoke_octets op i in
      let c : answer_count w ≡ length os = p.met.count ∙ rw (le-ltb (length before) 32 h) in
      let b : after ≡ os ++ drop (length os) before = p.met.buffer ∙ rw (le-ltb (length before) 32 h) in
      ap₂ take c b ∙ take_at os (drop (length os) before) (length os) refl

-- ---- reading what was written

module _ where
  execute_read : (o : IntegerOctets) → padded o ≡ false → reading (element 0xA1 (integer o ++ integer (One 6))) ≡ Invoked o EctExecute
  unfolding reading invoke_reading identified_reading first_element whole_elements siblings
  execute_read (One a) p = refl
  execute_read (Two a b) p = rw p

  request_read : (o : IntegerOctets) → padded o ≡ false → reading (element 0xA1 (integer o ++ element 0x06 (ect_object 0x04))) ≡ Invoked o EctLinkIdRequest
  unfolding reading invoke_reading identified_reading first_element whole_elements siblings
  request_read (One a) p = refl
  request_read (Two a b) p = rw p

  explicit_read : (o l : IntegerOctets) → padded o ≡ false → padded l ≡ false → reading (element 0xA1 (integer o ++ (element 0x06 (ect_object 0x01) ++ integer l)))
      ≡ Invoked o (ExplicitEctExecute (record { 0 = integer_of l }))
  unfolding reading invoke_reading identified_reading first_element whole_elements siblings
  explicit_read (One a) (One c) p q = refl
  explicit_read (One a) (Two c d) p q = rw q
  explicit_read (Two a b) (One c) p q = rw p
  explicit_read (Two a b) (Two c d) p q = rw (p, q)

small : (z : ℤ) → InInt16Range z → mag z < 32768
small (pos n) h = omega arith
small (negsuc n) h = omega arith

said : (z : ℤ) → InInt16Range z → integer_of (fewest z) ≡ z
said z h = integer_fewest z (small z h)

unpadded : (z : ℤ) → InInt16Range z → padded (fewest z) ≡ false
unpadded z h = fewest_unpadded z (small z h)

invoke_read : (op : Operation) (i : InvokeIdentifier) → InInt16Range i.0 → OperationInRange op → reading (invoke_octets op i) ≡ Invoked (fewest i.0) op
unfolding invoke_octets
invoke_read EctExecute i h k = execute_read (fewest i.0) (unpadded i.0 h)
invoke_read (ExplicitEctExecute l) i h k =
    explicit_read (fewest i.0) (fewest l.0) (unpadded i.0 h) (unpadded l.0 k) ∙ ap (λ (z : ℤ). Invoked (fewest i.0) (ExplicitEctExecute (record { 0 = z }))) (said l.0 k)
invoke_read EctLinkIdRequest i h k = request_read (fewest i.0) (unpadded i.0 h)

-- what was written is read as the same operation and numbers, for every identifier and every LinkId from -32768 to 32767
pub written_read : (op : Operation) (i : InvokeIdentifier) → InInt16Range i.0 → OperationInRange op →
    (before after : List ℕ) (w : Result ℕ BufferTooSmall) → 32 ≤ length before → WriteMet op i before w after →
    (r : Reading) → ReadMet (take (answer_count w) after) r → (answer_number w ≡ 0) × ReadAs op i r
written_read op i h k before after w room p r q =
    (accepted room p, record { received = fewest i.0; invoked = read_promise (take (answer_count w) after) r q ∙ ap reading (octets_are room p) ∙ invoke_read op i h k; identifier = said i.0 h })

-- ---- writing what was read

-- octets that are read as an invoke, with nothing behind the last element looked at, are the octets of that invoke
invoke_is : (s : List ℕ) → AreOctets s → (r : Reading) → ReadMet s r → (op : Operation) (i : InvokeIdentifier) → ReadAs op i r → NothingBehind op s → s ≡ invoke_octets op i
invoke_is s h r q op i e p =
    read_octets s h e.received op (sym (read_promise s r q) ∙ e.invoked) p ∙ ap (λ (z : ℤ). invoke_octets op (record { 0 = z })) e.identifier

-- and so what writing it gives
pub read_written : (s : List ℕ) → AreOctets s → (r : Reading) → ReadMet s r → (op : Operation) (i : InvokeIdentifier) → ReadAs op i r → NothingBehind op s →
    (before after : List ℕ) (w : Result ℕ BufferTooSmall) → 32 ≤ length before → WriteMet op i before w after →
    (answer_number w ≡ 0) × (take (answer_count w) after ≡ s)
read_written s h r q op i e p before after w room k = (accepted room k, octets_are room k ∙ sym (invoke_is s h r q op i e p))

-- "two different octet strings without further elements never read as the same invoke": the same operation and numbers
pub invoke_injective : (op : Operation) (i : InvokeIdentifier) →
    (s : List ℕ) → AreOctets s → (r : Reading) → ReadMet s r → ReadAs op i r → NothingBehind op s →
    (t : List ℕ) → AreOctets t → (q : Reading) → ReadMet t q → ReadAs op i q → NothingBehind op t → s ≡ t
invoke_injective op i s h r m e p t k q n f g = invoke_is s h r m op i e p ∙ sym (invoke_is t k q n op i f g)
