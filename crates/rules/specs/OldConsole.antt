-- What a console of the old kind meets (document 02, slip 8: "A console of the old kind, which stops at an unknown kind,
-- is shown numbers of type 0 alone").
use Rattle.std.specs.Prelude.{ℕ, zero, suc, ◌≡◌, cond, List, [], ◌∷◌, map, eqb, T, length, take, drop, get_or, Some}
use mathlib.Core.List.{Memᴰ}
use Rattle.digits.specs.Digits.{in_fifteen}
use Rattle.board.specs.declared.Board.{Board}
use Rattle.board.specs.declared.Row.{Row}
use Rattle.board.specs.Entries.{occupied}
use Rattle.events.specs.EventRecords.{request, Inform}
use Rattle.private_transfers.specs.EctInform.{EctInform, Given, inform_in}
use Rattle.rules.specs.Replies.{ReplyRecord, Tell, TellNumber, record_octets}

-- how long a record is of each kind that it knows, 0x81 to 0x85; 0 of a kind that it does not know
abbrev pub known_length : ℕ → ℕ
known_length kind =
    cond (eqb kind 0x81) 36
    (cond (eqb kind 0x82) 25
    (cond (eqb kind 0x83) 3
    (cond (eqb kind 0x84) 5
    (cond (eqb kind 0x85) 70
    0))))

-- at most so many records that it meets; it "stops at an unknown kind"
unfoldable pub met_from : ℕ → List ℕ → List (List ℕ)
met_from zero os = []
met_from (suc k) [] = []
met_from (suc k) (o ∷ os) =
    cond (eqb (known_length o) 0) [] (take (known_length o) (o ∷ os) ∷ met_from k (drop (known_length o) (o ∷ os)))

-- the records that it meets among some octets, which are no more of them than octets
abbrev pub met : List ℕ → List (List ℕ)
met os = met_from (length os) os

-- the records before the first 0x86
unfoldable pub before_86 : List ReplyRecord → List ReplyRecord
before_86 [] = []
before_86 (r ∷ rs) = cond (eqb (get_or (record_octets r) 0 0) 0x86) [] (r ∷ before_86 rs)

-- digit count and digits of a number of type 0: that of a row, or one of event 8, which "has type 0"
pub data OfType0 (b : Board) (event : List ℕ) : List ℕ → Type 0 where
  of_row : {r : Row} → Memᴰ r b.rows → T (occupied r.standing) → r.number.type_of_number ≡ 0 →
      OfType0 b event (r.number.count ∷ r.number.digits)
  received : {r : ℕ} {c ds : List ℕ} {i : EctInform} → request event ≡ Inform r c → inform_in c ≡ Some i →
      i.number ≡ Given ds → OfType0 b event (length ds ∷ in_fifteen ds)

-- of a board, an event on it, the records that the rules have it write, and the octets written
pub record OldConsole (b : Board) (event : List ℕ) (records : List ReplyRecord) (octets : List ℕ) : Type 0 where
  -- it meets just the records before the first 0x86
  pub meets : met octets ≡ map record_octets (before_86 records)
  -- "each 0x82 with mark 1 carries one"
  pub given : (l m d s : ℕ) (n : TellNumber) → Memᴰ (Tell l m d n s) (before_86 records) → n.mark ≡ 1 → n.type_of_number ≡ 0
  -- and by the octets that it meets: a Tell's mark is its eighth octet, its digit count the tenth
  pub type_0 : (m : List ℕ) → Memᴰ m (met octets) → get_or m 0 0 ≡ 0x82 → get_or m 7 0 ≡ 1 → OfType0 b event (drop 9 m)
