-- Columns by the places where the bodies begin in a log.
use Rattle.std.specs.Prelude.{ℕ, ◌+◌, Bool, List, map, ltb, length, take, drop, get_or}
use Rattle.octets.specs.Lists.{all}
use Rattle.events.specs.Records.{body_length}

-- the body of that kind that begins at a place
abbrev pub body_at : ℕ → List ℕ → ℕ → List ℕ
body_at kind log start = take (body_length kind) (drop start log)

-- the octets that stand so far behind some starts
abbrev pub octets_behind : ℕ → List ℕ → List ℕ → List ℕ
octets_behind place log starts = map (λ (start : ℕ). get_or log (start + place) 0) starts

-- whether the log has them
abbrev pub within : ℕ → List ℕ → List ℕ → Bool
within place log starts = all (λ (start : ℕ). ltb (start + place) (length log)) starts
