-- Elements stored octet by octet, and an invoke whose tag and length are stored after its contents. Assumes nothing.
use Prim.Native.Nat.{ℕ, ◌-◌, ◌≤◌, ◌<◌}
use native.Mathlib.Omega.{arith}
use mathlib.Core.Path.{◌≡◌, refl, ap}
use mathlib.Core.List.{List, [], ◌∷◌, ◌++◌}
use lib.ListN.{length, set, length-append}
use borrow.Author.Tests.{lt-ltb, le-ltb}
use Rattle.octets.specs.Buffers.{front_written, written_at}
use Rattle.filling.specs.declared.Filling.{Filling}
use Rattle.std.specs.Prelude.{Ok, Err}
use Rattle.filling.specs.Code.Putting.{HasRoom, Put}
use Rattle.octets.specs.declared.IntegerOctets.{IntegerOctets}
use Rattle.octets.specs.declared.IntegerOctets.TheVariants.{One, Two}
use Rattle.octets.specs.declared.InvokeIdentifier.{InvokeIdentifier}
use Rattle.component.specs.declared.Operation.{Operation}
use Rattle.component.specs.declared.Operation.TheVariants.{EctExecute, ExplicitEctExecute, EctLinkIdRequest}
use Rattle.octets.specs.Numbers.{fewest}
use Rattle.component.specs.Answers.{element, integer}
use Rattle.invokes.specs.Invokes.{operation_octets, invoke_octets}
use Rattle.invokes.specs.Contract.{Writes}

-- ---- how long they are

pub integer_short : (o : IntegerOctets) → length (integer o) ≤ 4
integer_short (One a) = omega arith
integer_short (Two a b) = omega arith

pub operation_short : (op : Operation) → length (operation_octets op) ≤ 12
operation_short EctExecute = omega arith
operation_short (ExplicitEctExecute l) = omega (arith, integer_short (fewest l.0))
operation_short EctLinkIdRequest = omega arith

-- an invoke has at most 18 octets
pub invoke_length : (op : Operation) (i : InvokeIdentifier) → length (invoke_octets op i) ≤ 18
unfolding invoke_octets
invoke_length op i = omega (arith, length-append (integer (fewest i.0)) (operation_octets op), integer_short (fewest i.0), operation_short op)

-- ---- the tag and the length, in front of what they count

framed : (t : ℕ) (c a : List ℕ) → 2 ≤ length a → set (set (written_at 2 c a) 0 t) 1 (length c) ≡ front_written (element t c) a
framed t c [] h = absurd (omega arith)
framed t c (x ∷ []) h = absurd (omega arith)
framed t c (x ∷ y ∷ a) h = refl

module _ (op : Operation) (i : InvokeIdentifier) (before : List ℕ) where
  pub refused : length before < 32 → Writes op i before (Err (record {})) before
  refused h = record { answer = rw (lt-ltb (length before) 32 h); count = rw (lt-ltb (length before) 32 h); buffer = rw (lt-ltb (length before) 32 h) }

  pub contents_room : (f : Filling) → 32 ≤ length before → f.buffer.now ≡ before → f.at ≡ 2 → HasRoom (integer (fewest i.0) ++ operation_octets op) f
  contents_room f h e z = omega (arith, h, ap length e, z, length-append (integer (fewest i.0)) (operation_octets op), integer_short (fewest i.0), operation_short op)

  pub written : {f g : Filling} {b : List ℕ} {n : ℕ} → 32 ≤ length before → f.buffer.now ≡ before → f.at ≡ 2
      → Put (integer (fewest i.0) ++ operation_octets op) f g → b ≡ g.buffer.now → n ≡ g.at → Writes op i before (Ok n) (set (set b 0 0xA1) 1 (n - 2))
  unfolding invoke_octets
  written {f} {g} {b} {n} h e z p d l =
      let c = integer (fewest i.0) ++ operation_octets op in
      let k : n - 2 ≡ length c = omega (arith, l, p.place, z) in
      record {
        answer = rw (le-ltb (length before) 32 h);
        count = rw (le-ltb (length before) 32 h) (omega (arith, l, p.place, z));
        buffer = rw (le-ltb (length before) 32 h, k, d, p.is, e, z) (framed 0xA1 c before (omega arith));
      }
