-- How long a record is by its kind, and a log as a list of records (document 01, "Event records").
use Rattle.std.specs.Prelude.{ℕ, zero, suc, ◌+◌, cond, List, [], ◌∷◌, eqb, length, take, drop, get_or}

-- the table of kinds, its column "body"; "event 7, Leg facility (body 69 ..)", "event 8 (body 67 ..)", "Event 9 ..
-- (body 25)" (document 02, slips 5, 6 and 8); a kind that is not listed has none
abbrev pub body_length : ℕ → ℕ
body_length kind =
    cond (eqb kind 1) 24
    (cond (eqb kind 2) 3
    (cond (eqb kind 3) 3
    (cond (eqb kind 4) 4
    (cond (eqb kind 5) 35
    (cond (eqb kind 6) 4
    (cond (eqb kind 7) 69
    (cond (eqb kind 8) 67
    (cond (eqb kind 9) 25
    0))))))))

-- "One octet of kind, then a body of fixed length"
abbrev pub record_length : ℕ → ℕ
record_length kind = body_length kind + 1

-- the record in front of a log: as long as its kind, or cut where the log ends
abbrev pub front_record : List ℕ → List ℕ
front_record log = take (record_length (get_or log 0 0)) log

abbrev pub behind : List ℕ → List ℕ
behind log = drop (record_length (get_or log 0 0)) log

-- at most so many records of a log
unfoldable pub records_from : ℕ → List ℕ → List (List ℕ)
records_from zero log = []
records_from (suc k) [] = []
records_from (suc k) (o ∷ os) = front_record (o ∷ os) ∷ records_from k (behind (o ∷ os))

-- the records of a log, which has no more of them than octets
abbrev pub records : List ℕ → List (List ℕ)
records log = records_from (length log) log
