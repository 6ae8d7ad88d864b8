-- What the functions of the walk answer. It only describes code.
use Rattle.std.specs.Prelude.{ℕ, zero, suc, cond, List, [], ◌∷◌, ◌++◌, map, flat_map, drop, replicate, take, None, Option, Some}
use Rattle.board.specs.declared.Board.{Board}
use Rattle.short_histories.specs.declared.Found.{Found}
use Rattle.short_histories.specs.declared.Found.TheVariants.{Numbers, Left}
use Rattle.short_histories.specs.Sequences.{event_numbers, of_length, up_to}
use Rattle.short_histories.specs.Histories.{accepts_number, after_number}
use Rattle.short_histories.specs.Code.Finding.{FoundAt, At, Beyond}

-- the board after_number an event, where it is accepted
abbrev pub after_accepted : Board → ℕ → Option Board
after_accepted b n = cond (accepts_number b n) (Some (after_number b n)) None

-- the histories of so many events, from a board on
abbrev pub long : ℕ → Board → List (List ℕ)
long k b = of_length accepts_number after_number k b

-- those of fewer events
unfoldable pub shorter : ℕ → Board → List (List ℕ)
shorter zero b = []
shorter (suc k) b = up_to accepts_number after_number k b

-- those that an event begins, with so many behind it
abbrev pub beginning : ℕ → Board → ℕ → List (List ℕ)
beginning k b n = cond (accepts_number b n) (map (λ (ns : List ℕ). n ∷ ns) (long k (after_number b n))) []

-- those that this event or a later one begins
unfoldable pub begun_from : ℕ → Board → ℕ → List (List ℕ)
begun_from k b n = flat_map (beginning k b) (drop n event_numbers)

-- what the code says of a place
abbrev pub found_of : FoundAt → Found
found_of (At ns) = Numbers (take 4 (ns ++ replicate 4 0))
found_of (Beyond p) = Left p

-- the same where each history has one more number, which begins it
abbrev pub in_front : ℕ → Found → Found
in_front n (Numbers ns) = Numbers (n ∷ take 3 ns)
in_front n (Left p) = Left p
