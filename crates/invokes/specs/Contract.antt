-- What `write_invoke` promises: its answer, and the buffer (document 02, slip 1).
use Rattle.std.specs.Prelude.{ℕ, ◌≡◌, cond, List, [], ltb, length, Result, Ok, Err}
use Rattle.octets.specs.declared.InvokeIdentifier.{InvokeIdentifier}
use Rattle.octets.specs.Buffers.{front_written}
use Rattle.component.specs.declared.Operation.{Operation}
use Rattle.events.specs.declared.Refusal.TheVariants as refusal
use Rattle.events.specs.Refusals.{refusal_number}
use Rattle.invokes.specs.declared.BufferTooSmall.{BufferTooSmall}
use Rattle.invokes.specs.Invokes.{invoke_octets}

-- the number that an answer stands for: 0 where the invoke is written, and a refusal's of document 01's table
abbrev pub answer_number : Result ℕ BufferTooSmall → ℕ
answer_number (Ok n) = 0
answer_number (Err e) = refusal_number refusal.BufferTooSmall

-- the number of octets written
abbrev pub answer_count : Result ℕ BufferTooSmall → ℕ
answer_count (Ok n) = n
answer_count (Err e) = 0

-- "Checks: 1 where the buffer is below 32 octets."
abbrev pub returned : ℕ → ℕ
returned room = cond (ltb room 32) 1 0

-- the octets that go into a buffer of that length: none with a refusal
abbrev pub octets_for : ℕ → Operation → InvokeIdentifier → List ℕ
octets_for room op i = cond (ltb room 32) [] (invoke_octets op i)

-- the answer, and the buffer, which "keeps what lies beyond the octets written"
pub record Writes (op : Operation) (i : InvokeIdentifier) (before : List ℕ) (r : Result ℕ BufferTooSmall) (after : List ℕ) : Type 0 where
  pub answer : answer_number r ≡ returned (length before)
  pub count : answer_count r ≡ length (octets_for (length before) op i)
  pub buffer : after ≡ front_written (octets_for (length before) op i) before
