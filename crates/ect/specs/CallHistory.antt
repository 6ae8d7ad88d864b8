-- Whole lists of calls of `step` on a board that begins fresh: demand 3 of the values that the code returned
-- (document 01, "The book").
use Rattle.std.specs.Prelude.{ℕ, ◌≡◌, ◌↔◌, true, not, List, [], ◌∷◌, ◌++◌, map, eqb, T, length, take, None, Some}
use Rattle.octets.specs.Lists.{all, distinct}
use Rattle.board.specs.declared.Board.{Board}
use Rattle.board.specs.declared.Call.{Call}
use Rattle.board.specs.declared.Connection.TheVariants.{WithUser}
use Rattle.board.specs.Entries.{taken}
use Rattle.board.specs.Soundness.{sound, same_link_ids}
use Rattle.rules.specs.Book.{Book}
use Rattle.rules.specs.History.{Event, book_at, book_returns, history, accepted, Lives, EachSince, transfer_of}
use Rattle.rules.specs.History.{on_board, HasRow, Partners, Agree}
use Rattle.rules.specs.Replies.{error_octets}
use Rattle.ect.specs.Contract.{answer_number, answer_count}
use Rattle.ect.specs.declared.Stepped.{Stepped}

-- a call of `step`: the event's octets, the buffer as it was lent, what was returned, and the buffer as it lies there
-- afterwards
pub record StepCall : Type 0 where
  pub event : List ℕ
  pub before : List ℕ
  pub returned : Stepped
  pub after : List ℕ

-- "each event gets the board that the last one returned or left"
unfoldable pub last_board : Board → List StepCall → Board
last_board b [] = b
last_board b (c ∷ cs) = last_board c.returned.board cs

-- the number that was returned
abbrev pub number_returned : StepCall → ℕ
number_returned c = answer_number c.returned.answer

-- the octets written, as they lie in the buffer
abbrev pub written : StepCall → List ℕ
written c = take (answer_count c.returned.answer) c.after

-- the book is fed "each event's record and buffer length, nothing from the board or the answers"
abbrev pub event_of : StepCall → Event
event_of c = record { octets = c.event; room = length c.before }

abbrev pub events : List StepCall → List Event
events calls = map event_of calls

-- ---- the statement, of calls that began with the board b, beside the book k

pub record CallHistory (b : Board) (k : Book) (calls : List StepCall) : Type 0 where
  -- "just those events are refused that the book of document 01 refuses": the numbers that the calls returned are the book's
  pub refusals : map number_returned calls ≡ book_returns k (events calls)
  -- "and the history is the list without them": the events whose calls returned 0
  pub history_is : accepted (map number_returned calls) (events calls) ≡ history k (events calls)
  -- the history alone is refused nowhere, and leads to the same book
  pub history_accepted : all (λ (n : ℕ). eqb n 0) (book_returns k (history k (events calls))) ≡ true
  pub history_book : book_at k (history k (events calls)) ≡ book_at k (events calls)
  -- "at the end of the list board and book agree"
  pub agree : Agree (last_board b calls) (book_at k (events calls))
  -- "a far party is on the board exactly when the history opened it and hasn't since ended it or the party it was
  -- joined with at that moment"
  pub presence : (l : ℕ) → T (on_board (last_board b calls) l) ↔ Lives k (history k (events calls)) l
  -- "it has the partner, and is that one's partner, to whom a transfer has joined it since, or else one call with the
  -- served user"
  pub partner : (l : ℕ) (v : Lives k (history k (events calls)) l) →
      EachSince v (λ k' e. (m : ℕ) → transfer_of k' e l ≡ Some m → Partners (last_board b calls) l m)
      × (EachSince v (λ k' e. transfer_of k' e l ≡ None) → (c : Call) × HasRow (last_board b calls) l (WithUser c))
  -- "no two live LinkIds are equal"
  pub link_ids : T (distinct same_link_ids (taken (last_board b calls).rows))
  -- "wherever in the list an event was answered with an error, the whole board stayed as that event found it"
  pub errors : (pre post : List StepCall) (c : StepCall) → calls ≡ pre ++ (c ∷ post) →
      T (error_octets (written c)) → c.returned.board ≡ last_board b pre
  -- a refusal left the board, and the buffer, as it found them
  pub untouched : (pre post : List StepCall) (c : StepCall) → calls ≡ pre ++ (c ∷ post) →
      T (not (eqb (number_returned c) 0)) → (c.returned.board ≡ last_board b pre) × (c.after ≡ c.before)
  -- the board is sound, so 2 is returned nowhere
  pub sound_board : T (sound (last_board b calls))
