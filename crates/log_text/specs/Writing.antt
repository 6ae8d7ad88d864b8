-- What a call that writes a text into a buffer leaves there.
use Rattle.std.specs.Prelude.{ℕ, ◌≤◌, ◌≡◌, cond, List, leb, length, Option, Some, None, IfSome}
use Rattle.octets.specs.Buffers.{front_written}

-- a buffer with a text at its front; all as it was where the text does not fit
abbrev pub fitted : List ℕ → List ℕ → List ℕ
fitted text buffer = cond (leb (length text) (length buffer)) (front_written text buffer) buffer

-- how many octets that wrote; `None` where the text does not fit
abbrev pub fitted_count : List ℕ → List ℕ → Option ℕ
fitted_count text buffer = cond (leb (length text) (length buffer)) (Some (length text)) None

-- the text is at the front of the buffer, or the buffer is untouched and `None` is returned. The third part follows
-- from the second, and is stated for callers that go on behind the text.
pub record Fitted (text before after : List ℕ) (returned : Option ℕ) : Type 0 where
  pub is : after ≡ fitted text before
  pub count : returned ≡ fitted_count text before
  pub within : IfSome returned (λ n. n ≤ length before)
