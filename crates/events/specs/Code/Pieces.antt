-- The whole records in front of a piece of a log.
use Rattle.std.specs.Prelude.{ℕ, zero, suc, ◌+◌, cond, List, [], ◌∷◌, leb, length}
use Rattle.events.specs.declared.logs.WholeRecords.{WholeRecords}
use Rattle.events.specs.Records.{record_length, behind}

abbrev pub no_whole : WholeRecords
no_whole = record { octets = 0; count = 0 }

-- a record of so many octets in front of others
abbrev pub one_whole : ℕ → WholeRecords → WholeRecords
one_whole n w = record { octets = n + w.octets; count = 1 + w.count }

-- at most so many records, up to one that the end of the piece cuts
unfoldable pub whole_from : ℕ → List ℕ → WholeRecords
whole_from zero piece = no_whole
whole_from (suc k) [] = no_whole
whole_from (suc k) (o ∷ os) =
    cond (leb (record_length o) (length (o ∷ os))) (one_whole (record_length o) (whole_from k (behind (o ∷ os)))) no_whole

-- a piece has no more records than octets
abbrev pub whole_in : List ℕ → WholeRecords
whole_in piece = whole_from (length piece) piece
