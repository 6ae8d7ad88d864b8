-- The records of an archive (document 02, slip 11): "Undoing it gives the log back".
use Rattle.std.specs.Prelude.{ℕ, zero, suc, ◌+◌, ◌*◌, Bool, ◌&&◌, List, [], ◌∷◌, ◌++◌, eqb, ltb, length, get_or}
use Rattle.octets.specs.Lists.{any, filter}
use Rattle.events.specs.Records.{body_length, record_length}
use Rattle.log_archives.specs.Regrouping.{listed_kinds, kind_of}

-- a kind of the table
abbrev pub listed : ℕ → Bool
listed k = any (eqb k) listed_kinds

-- a record of a listed kind, as long as its kind has it
abbrev pub well_formed : List ℕ → Bool
well_formed r = listed (kind_of r) && eqb (length r) (record_length (kind_of r))

-- how many of some kinds are this one
abbrev pub count_of : ℕ → List ℕ → ℕ
count_of kind ks = length (filter (λ (k : ℕ). eqb k kind) ks)

-- how many octets the bodies of some kinds have, of records that have the kinds ks
unfoldable pub octets_of : List ℕ → List ℕ → ℕ
octets_of [] ks = 0
octets_of (kind ∷ kinds) ks = count_of kind ks * body_length kind + octets_of kinds ks

-- where the bodies of a kind begin: behind those of the lower kinds
abbrev pub start_of : ℕ → List ℕ → ℕ
start_of kind ks = octets_of (filter (λ (k : ℕ). ltb k kind) listed_kinds) ks

-- so many octets, each so far behind the last: what a body has in its columns
unfoldable pub every_from : ℕ → ℕ → ℕ → List ℕ → List ℕ
every_from place step zero os = []
every_from place step (suc n) os = get_or os place 0 ∷ every_from (place + step) step n os

-- the record of a kind that has so many of its kind before it
abbrev pub undone_record : List ℕ → List ℕ → ℕ → ℕ → List ℕ
undone_record ks os kind before =
    kind ∷ every_from (start_of kind ks + before) (count_of kind ks) (body_length kind) os

-- the records of the kinds that follow those seen
unfoldable pub undone_from : List ℕ → List ℕ → List ℕ → List ℕ → List (List ℕ)
undone_from ks os seen [] = []
undone_from ks os seen (kind ∷ later) =
    undone_record ks os kind (count_of kind seen) ∷ undone_from ks os (seen ++ (kind ∷ [])) later

-- the records of an archive with these kinds and these octets behind them
abbrev pub undone_records : List ℕ → List ℕ → List (List ℕ)
undone_records ks os = undone_from ks os [] ks
