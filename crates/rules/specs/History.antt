-- Whole lists of events on a board that begins fresh (demand 3; document 01, "The book").
use Rattle.std.specs.Prelude.{ℕ, ◌≡◌, ◌↔◌, Bool, true, false, ◌&&◌, ◌||◌, not, cond, eqb, T, length, None, Option, Some}
use mathlib.Core.List.{List, [], ◌∷◌, ◌++◌, Memᴰ}
use Rattle.octets.specs.Lists.{any, all, filter, distinct}
use Rattle.board.specs.declared.Call.{Call}
use Rattle.board.specs.declared.Board.{Board}
use Rattle.board.specs.declared.Connection.{Connection}
use Rattle.board.specs.declared.Connection.TheVariants.{WithUser, WithPartner}
use Rattle.board.specs.declared.Entry.{Entry}
use Rattle.board.specs.declared.Options.{Options}
use Rattle.board.specs.declared.Change.{Change}
use Rattle.board.specs.declared.Change.TheVariants as change
use Rattle.board.specs.Entries.{taken, has_leg, is_partner}
use Rattle.board.specs.Soundness.{sound, same_link_ids, valid_options}
use Rattle.board.specs.Making.{Opening, empty_board, fresh}
use Rattle.events.specs.EventRecords.{request, Request, Malformed, Open, Progress, Hold, Release, Facility, Answer}
use Rattle.events.specs.EventRecords.{LegFacility, Inform}
use Rattle.rules.specs.Checks.{BoardChange, Enter, Apply, returned_by, change_of}
use Rattle.rules.specs.Replies.{error_record, error_octets, octets}
use Rattle.rules.specs.Step.{step, Outcome, refused}
use Rattle.rules.specs.Book.{Book, empty_book, fresh_book, book_decision, book_step}

-- ---- playing a list

-- an event as it is played: any octets at all, and a reply buffer of any length
pub record Event : Type 0 where
  pub octets : List ℕ
  pub room : ℕ

-- what an event does to a board
abbrev pub stepped : Board → Event → Outcome
stepped b e = step b e.octets e.room

-- "each event gets the board that the last one returned or left"
unfoldable pub board_at : Board → List Event → Board
board_at b [] = b
board_at b (e ∷ es) = board_at (stepped b e).board es

-- what the events returned
unfoldable pub returns : Board → List Event → List ℕ
returns b [] = []
returns b (e ∷ es) = (stepped b e).returned ∷ returns (stepped b e).board es

-- the same of the book
abbrev pub booked : Book → Event → Book
booked k e = book_step k e.octets e.room

unfoldable pub book_at : Book → List Event → Book
book_at k [] = k
book_at k (e ∷ es) = book_at (booked k e) es

abbrev pub book_returned : Book → Event → ℕ
book_returned k e = returned_by (book_decision k e.octets e.room)

unfoldable pub book_returns : Book → List Event → List ℕ
book_returns k [] = []
book_returns k (e ∷ es) = book_returned k e ∷ book_returns (booked k e) es

-- ---- "just those events are refused that the book .. refuses, and the history is the list without them"

abbrev pub accepts : Book → Event → Bool
accepts k e = eqb (book_returned k e) 0

unfoldable pub history : Book → List Event → List Event
history k [] = []
history k (e ∷ es) = cond (accepts k e) (e ∷ history (booked k e) es) (history (booked k e) es)

-- the events of a list at which a list of returned numbers has a 0
unfoldable pub accepted : List ℕ → List Event → List Event
accepted [] es = []
accepted (n ∷ ns) [] = []
accepted (n ∷ ns) (e ∷ es) = cond (eqb n 0) (e ∷ accepted ns es) (accepted ns es)

-- ---- what an event of the history, and the book as that event finds it, say of a leg

-- "An accepted Open opens its leg"; "history reads such an event as neither opening nor ending anyone" (document 02,
-- slip 5, of a Leg facility), nor does an Inform, by which "No row changes" (slip 6)
abbrev pub opens_leg : ℕ → Request → Bool
opens_leg l (Malformed c) = false
opens_leg l (Open r m d n) = eqb l m
opens_leg l (Progress r s) = false
opens_leg l (Hold r a) = false
opens_leg l (Release m) = false
opens_leg l (Facility r c) = false
opens_leg l (Answer m) = false
opens_leg l (LegFacility m n c) = false
opens_leg l (Inform r c) = false

unfoldable pub opens : Event → ℕ → Bool
opens e l = opens_leg l (request e.octets)

-- the entry is the leg l's, and joined to m
abbrev pub joined_with : ℕ → ℕ → Entry → Bool
joined_with l m e = has_leg l e && is_partner m e.connection

-- "an accepted Release ends it": the leg, "or the party it was joined with at that moment"
abbrev pub ends_leg : List Entry → ℕ → Request → Bool
ends_leg es l (Malformed c) = false
ends_leg es l (Open r m d n) = false
ends_leg es l (Progress r s) = false
ends_leg es l (Hold r a) = false
ends_leg es l (Release m) = eqb l m || any (joined_with l m) es
ends_leg es l (Facility r c) = false
ends_leg es l (Answer m) = false
ends_leg es l (LegFacility m n c) = false
ends_leg es l (Inform r c) = false

unfoldable pub ends : Book → Event → ℕ → Bool
ends k e l = ends_leg k.entries l (request e.octets)

-- the party that a transfer joins the leg with
abbrev pub joins_to : ℕ → Change → Option ℕ
joins_to l (change.SetState r s) = None
joins_to l (change.SetAuxiliary r a) = None
joins_to l (change.SetLinkId r z) = None
joins_to l (change.Join a b) = cond (eqb l a) (Some b) (cond (eqb l b) (Some a) None)
joins_to l (change.EndAlerting m) = None
joins_to l (change.Release m) = None
joins_to l (change.ReleasePair m p) = None

abbrev pub joined_by : ℕ → Option BoardChange → Option ℕ
joined_by l None = None
joined_by l (Some (Enter p n)) = None
joined_by l (Some (Apply c)) = joins_to l c

-- the party with whom the event joins the leg; "transfer, joined and live LinkId are the book's at that point of the list"
unfoldable pub transfer_of : Book → Event → ℕ → Option ℕ
transfer_of k e l = joined_by l (change_of (book_decision k e.octets e.room))

-- at a place of the history the leg was opened, and at no place since was it ended
pub record Lives (k : Book) (h : List Event) (l : ℕ) : Type 0 where
  pub before : List Event
  pub opener : Event
  pub since : List Event
  pub place : h ≡ before ++ (opener ∷ since)
  pub opened : T (opens opener l)
  pub not_ended : (mid rest : List Event) (e : Event) → since ≡ mid ++ (e ∷ rest) → T (not (ends (book_at k (before ++ (opener ∷ mid))) e l))

-- at each place since the leg was opened, with the book as the event at that place found it
abbrev pub EachSince : {k : Book} {h : List Event} {l : ℕ} → Lives k h l → (Book → Event → Type 0) → Type 0
EachSince {k} v P = (mid rest : List Event) (e : Event) → v.since ≡ mid ++ (e ∷ rest) → P (book_at k (v.before ++ (v.opener ∷ mid))) e

-- ---- what a board says of a leg

abbrev pub on_board : Board → ℕ → Bool
on_board b l = any (has_leg l) (taken b.rows)

-- the leg has one row, and that row has this connection
abbrev pub HasRow : Board → ℕ → Connection → Type 0
HasRow b l c = filter (has_leg l) (taken b.rows) ≡ record { leg = l; connection = c } ∷ []

-- each is the other's partner
abbrev pub Partners : Board → ℕ → ℕ → Type 0
Partners b l m = ((a : Bool) × HasRow b l (WithPartner m a)) × ((a : Bool) × HasRow b m (WithPartner l a))

-- "Board and book agree where options and candidate are equal, each entry has one row, joined to its partner and
-- alerting or not as the entry says, or with its call in all fields, and no other row is taken."
pub record Agree (b : Board) (k : Book) : Type 0 where
  pub options : b.options ≡ k.options
  pub candidate : b.candidate.0 ≡ k.candidate
  pub each : (e : Entry) → Memᴰ e k.entries → HasRow b e.leg e.connection
  pub no_other : (e : Entry) → Memᴰ e (taken b.rows) → Memᴰ e k.entries
  pub as_many : length (taken b.rows) ≡ length k.entries

-- ---- the statement, of a list played into the board b beside the book k

pub record WholeHistory (b : Board) (k : Book) (list : List Event) : Type 0 where
  -- "just those events are refused that the book of document 01 refuses": the returned numbers are the book's
  pub refusals : returns b list ≡ book_returns k list
  -- "and the history is the list without them"
  pub history_is : accepted (returns b list) list ≡ history k list
  -- the history alone is refused nowhere, and leads to the same book and the same board
  pub history_accepted : all (λ (n : ℕ). eqb n 0) (book_returns k (history k list)) ≡ true
  pub history_book : book_at k (history k list) ≡ book_at k list
  pub history_board : board_at b (history k list) ≡ board_at b list
  -- "at the end of the list board and book agree"
  pub agree : Agree (board_at b list) (book_at k list)
  -- "a far party is on the board exactly when the history opened it and hasn't since ended it or the party it was
  -- joined with at that moment"
  pub presence : (l : ℕ) → T (on_board (board_at b list) l) ↔ Lives k (history k list) l
  -- "it has the partner, and is that one's partner, to whom a transfer has joined it since, or else one call with the
  -- served user"
  pub partner : (l : ℕ) (v : Lives k (history k list) l) →
      EachSince v (λ k' e. (m : ℕ) → transfer_of k' e l ≡ Some m → Partners (board_at b list) l m)
      × (EachSince v (λ k' e. transfer_of k' e l ≡ None) → (c : Call) × HasRow (board_at b list) l (WithUser c))
  -- "no two live LinkIds are equal"
  pub link_ids : T (distinct same_link_ids (taken (board_at b list).rows))
  -- "wherever in the list an event was answered with an error, the whole board stayed as that event found it": by the
  -- records, and by the octets
  pub errors : (before after : List Event) (e : Event) → list ≡ before ++ (e ∷ after) →
      T (any error_record (stepped (board_at b before) e).replies) → (stepped (board_at b before) e).board ≡ board_at b before
  pub errors_octets : (before after : List Event) (e : Event) → list ≡ before ++ (e ∷ after) →
      T (error_octets (octets (stepped (board_at b before) e).replies)) → (stepped (board_at b before) e).board ≡ board_at b before
  -- a refused event leaves the board as it found it, and writes nothing
  pub untouched : (before after : List Event) (e : Event) → list ≡ before ++ (e ∷ after) →
      T (not (eqb (stepped (board_at b before) e).returned 0)) →
      stepped (board_at b before) e ≡ refused (stepped (board_at b before) e).returned (board_at b before)
  -- the board is sound, so 2 is returned nowhere
  pub sound_board : T (sound (board_at b list))

-- on the empty board of any options that are in range
abbrev pub Demand3Of : Options → Type 0
Demand3Of o = T (valid_options o) → (list : List Event) → WholeHistory (empty_board o) (empty_book o) list

-- "For every list of events .. played into a board that begins fresh, whatever the options and reply buffers": the
-- board that making returns; "for boards made either way" (document 02, slip 9)
abbrev pub Demand3 : Type 0
Demand3 = (way : Opening) (s a : ℕ) (list : List Event) → WholeHistory (fresh way s a).board (fresh_book way s a) list
