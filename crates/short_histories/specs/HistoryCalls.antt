-- What is claimed of the short histories over the contracts: the places give just the sequences that calls of `step`
-- accept (document 02, slip 10).
use Rattle.std.specs.Prelude.{ℕ, ◌≡◌, ◌≤◌, ◌<◌, true, List, map, eqb, length, take, None, Some, Result, Ok}
use Rattle.octets.specs.Lists.{all}
use Rattle.ect.specs.CallHistory.{StepCall, number_returned}
use Rattle.short_histories.specs.declared.History.{History}
use Rattle.short_histories.specs.declared.PastTheEnd.{PastTheEnd}
use Rattle.short_histories.specs.Sequences.{is_event_number, none_refused, precedes}
use Rattle.short_histories.specs.Histories.{record_numbered, accepts_number, after_number, first_board, most_events, listed, listed_answer}

-- the calls play a sequence: the record of each number, "with buffers of 128 octets"
pub record PlaysNumbers (ns : List ℕ) (calls : List StepCall) : Type 0 where
  pub events : map (λ (c : StepCall). c.event) calls ≡ map record_numbered ns
  pub buffers : all (λ (c : StepCall). eqb (length c.before) 128) calls ≡ true

-- "no event is refused"
abbrev pub AllAccepted : List StepCall → Type 0
AllAccepted calls = all (λ (c : StepCall). eqb (number_returned c) 0) calls ≡ true

-- the numbers of a history
abbrev pub numbers_of : History → List ℕ
numbers_of h = take h.length h.numbers

-- the statement, of an answer to each place, where `Plays ns calls` says that the calls play the sequence from the fresh
-- board
pub record HistoriesOfCalls (answer : ℕ → Result History PastTheEnd) (Plays : List ℕ → List StepCall → Type 0) : Type 0 where
  -- a place for each of the 71, "counted from 0"
  pub first_places : (place : ℕ) → place < 71 → (h : History) × (answer place ≡ Ok h)
  -- "15 for a place at or past the list's length, with an empty sequence returned"
  pub past : (place : ℕ) → 71 ≤ place → listed_answer (answer place) ≡ listed None
  -- "every sequence of at most four of them in which no event is refused, the empty one included"; "none is missing"
  pub none_missing : (ns : List ℕ) (calls : List StepCall) → length ns ≤ most_events → all is_event_number ns ≡ true → Plays ns calls → AllAccepted calls →
      (place : ℕ) × (listed_answer (answer place) ≡ listed (Some ns))
  -- and no other, by the rules and by the calls
  pub only_such : (place : ℕ) (h : History) → answer place ≡ Ok h →
      (length (numbers_of h) ≤ most_events) × (all is_event_number (numbers_of h) ≡ true)
      × (none_refused accepts_number after_number first_board (numbers_of h) ≡ true)
      × ((calls : List StepCall) → Plays (numbers_of h) calls → AllAccepted calls)
  -- "Shorter ones come first, then in order of the numbers, compared from the first. Each appears once"
  pub ascending : (p q : ℕ) (g h : History) → p < q → answer p ≡ Ok g → answer q ≡ Ok h → precedes (numbers_of g) (numbers_of h) ≡ true
