-- Writing into a lent buffer (document 01, "Event records"), for every call that does.
use Rattle.std.specs.Prelude.{List, ◌++◌, ℕ, length, take, drop}

-- "Every call that writes into a lent buffer, later ones too, keeps what lies beyond the octets written": octets at
-- the front of a buffer
abbrev pub front_written : List ℕ → List ℕ → List ℕ
front_written os buffer = os ++ drop (length os) buffer

-- the same from a place on
abbrev pub written_at : ℕ → List ℕ → List ℕ → List ℕ
written_at at os buffer = take at buffer ++ front_written os (drop at buffer)
