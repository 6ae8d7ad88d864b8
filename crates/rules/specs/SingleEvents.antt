-- What is claimed of a Leg facility and of an Inform shares this: the checks before their own, and that nobody is
-- moved.
use Rattle.std.specs.Prelude.{ℕ, ◌≤◌, ◌≡◌, Bool, false, List, T, length, None}
use Rattle.board.specs.declared.Board.{Board}
use Rattle.board.specs.Soundness.{sound}
use Rattle.rules.specs.Book.{Book}
use Rattle.rules.specs.History.{Event, booked, opens, ends, transfer_of}

-- checks 1 to 5 are passed, by an event whose kind is listed: its body has n octets, and its fields pass their test
pub record Checked (b : Board) (room : ℕ) (body : List ℕ) (n : ℕ) (fields : Bool) : Type 0 where
  pub enough : 128 ≤ room
  pub sound_board : T (sound b)
  pub long : length body ≡ n
  pub is_in_range : T fields

-- "history reads such an event as neither opening nor ending anyone" (document 02, slip 5), and it joins nobody
pub record MovesNobody (k : Book) (e : Event) : Type 0 where
  pub book_stays : booked k e ≡ k
  pub opens_nobody : (l : ℕ) → opens e l ≡ false
  pub ends_nobody : (l : ℕ) → ends k e l ≡ false
  pub joins_nobody : (l : ℕ) → transfer_of k e l ≡ None
