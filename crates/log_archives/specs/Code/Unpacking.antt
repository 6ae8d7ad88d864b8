-- An archive in its parts.
use Rattle.std.specs.Prelude.{ℕ, ◌&&◌, cond, List, leb, length, take, drop, None, Option, Some}
use denote.Ref.{Bor}
use Rattle.octets.specs.Numbers.{number_of}

-- behind the option octets the kinds, as many as the count in front of them says, and the octets behind these
abbrev pub kinds_counted : List ℕ → Option (List ℕ × List ℕ)
kinds_counted os =
    cond (leb 4 (length os) && leb (number_of (take 4 os)) (length (drop 4 os)))
    (Some (take (number_of (take 4 os)) (drop 4 os), drop (number_of (take 4 os)) (drop 4 os)))
    None

-- the same, as they are lent
abbrev pub kinds_split : Option (Bor (List ℕ) × Bor (List ℕ)) → Option (List ℕ × List ℕ)
kinds_split None = None
kinds_split (Some (kinds, bodies)) = Some (kinds.now, bodies.now)
