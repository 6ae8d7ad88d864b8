-- The book, the reference model (document 01, "The book"): fed the options and each event's record and buffer length,
-- and nothing from the board or the answers.
use Rattle.std.specs.Prelude.{ℕ, Bool, ◌&&◌, ◌||◌, not, cond, List, [], ◌∷◌, map, eqb, leb, ltb, ℤ, pos, length, None}
use Rattle.std.specs.Prelude.{Option, Some}
use Rattle.octets.specs.declared.LinkId.{LinkId}
use Rattle.octets.specs.Lists.{filter}
use Rattle.octets.specs.Numbers.{next_link_id}
use Rattle.board.specs.declared.Call.{Call}
use Rattle.board.specs.declared.Options.{Options}
use Rattle.board.specs.States.{delivered}
use Rattle.board.specs.declared.Connection.{Connection}
use Rattle.board.specs.declared.Connection.TheVariants.{WithUser, WithPartner}
use Rattle.board.specs.declared.Entry.{Entry}
use Rattle.board.specs.declared.Change.{Change}
use Rattle.board.specs.declared.Change.TheVariants as change
use Rattle.board.specs.Entries.{is_number}
use Rattle.board.specs.Making.{Opening, options, making_refusal}
use Rattle.board.specs.Changes.{with_state, with_auxiliary, with_link_id}
use Rattle.events.specs.declared.Refusal.TheVariants.{BufferTooSmall}
use Rattle.events.specs.EventRecords.{request}
use Rattle.rules.specs.Checks.{BoardChange, Enter, Apply, Decision, Refuse, decide, change_of, new_link_id_of}

-- "It holds the options, a candidate, 0 at first, and entries, none at first"
pub record Book : Type 0 where
  pub options : Options
  pub candidate : ℤ
  pub entries : List Entry

abbrev pub empty_book : Options → Book
empty_book o = record { options = o; candidate = pos 0; entries = [] }

-- "fed the options (both 0 where making the board was refused)", by the opening that the board was made by
abbrev pub fed_options : Options → Option ℕ → Options
fed_options o None = o
fed_options o (Some n) = options 0 0

unfoldable pub fresh_book : Opening → ℕ → ℕ → Book
fresh_book way s a = empty_book (fed_options (options s a) (making_refusal way (options s a)))

-- ---- the entries afterwards

-- each entry's connection anew, by its leg and connection
abbrev pub map_connection : (ℕ → Connection → Connection) → Entry → Entry
map_connection f e = record { leg = e.leg; connection = f e.leg e.connection }

-- "Progress writes the call state, Hold the auxiliary state, of the call with that reference."
abbrev pub change_call : ℕ → (Call → Call) → ℕ → Connection → Connection
change_call r f n (WithUser c) = WithUser (cond (eqb r c.reference.0) (f c) c)
change_call r f n (WithPartner p a) = WithPartner p a

-- "a transfer makes each of the two legs the other's partner in place of its call, a Delivered one alerting"
abbrev pub join_legs : ℕ → ℕ → ℕ → Connection → Connection
join_legs a b n (WithUser c) = cond (eqb a n) (WithPartner b (delivered c)) (cond (eqb b n) (WithPartner a (delivered c)) (WithUser c))
join_legs a b n (WithPartner p x) = WithPartner p x

-- "Answer ends the leg's alerting."
abbrev pub end_alerting : ℕ → ℕ → Connection → Connection
end_alerting l n (WithUser c) = WithUser c
end_alerting l n (WithPartner p x) = WithPartner p (x && not (eqb l n))

-- "Release strikes the leg's entry and its partner's, if any."
abbrev pub stays : ℕ → Option ℕ → Entry → Bool
stays l partner e = not (eqb e.leg l || is_number e.leg partner)

-- "a new LinkId is entered"
abbrev pub changed_entries : Change → List Entry → List Entry
changed_entries (change.SetState r s) es = map (map_connection (change_call r.0 (with_state s))) es
changed_entries (change.SetAuxiliary r a) es = map (map_connection (change_call r.0 (with_auxiliary a))) es
changed_entries (change.SetLinkId r l) es = map (map_connection (change_call r.0 (with_link_id l))) es
changed_entries (change.Join a b) es = map (map_connection (join_legs a b)) es
changed_entries (change.EndAlerting l) es = map (map_connection (end_alerting l)) es
changed_entries (change.Release l) es = filter (stays l None) es
changed_entries (change.ReleasePair l p) es = filter (stays l (Some p)) es

-- "Open enters the leg and its call."
unfoldable pub entries_after : Option BoardChange → List Entry → List Entry
entries_after None es = es
entries_after (Some (Enter p n)) es = record { leg = p.leg; connection = WithUser p.call } ∷ es
entries_after (Some (Apply c)) es = changed_entries c es

-- "a new LinkId .. moves the candidate"
abbrev pub moved_by : Option LinkId → ℤ → ℤ
moved_by None z = z
moved_by (Some l) z = next_link_id l.0

unfoldable pub candidate_moves : Option BoardChange → ℤ → ℤ
candidate_moves c z = moved_by (new_link_id_of c) z

-- ---- an event

-- "It refuses an event by the checks above, its entries standing for the rows taken": 64 entries leave no row
unfoldable pub book_rules : Book → List ℕ → Decision
book_rules k os = decide k.options k.candidate (leb 64 (length k.entries)) k.entries (request os)

-- "2 never arises"
unfoldable pub book_decision : Book → List ℕ → ℕ → Decision
book_decision k os room = cond (ltb room 128) (Refuse BufferTooSmall) (book_rules k os)

-- "All else, refused events too, changes nothing."
unfoldable pub book_after : Decision → Book → Book
book_after d k = record { options = k.options; candidate = candidate_moves (change_of d) k.candidate; entries = entries_after (change_of d) k.entries }

unfoldable pub book_step : Book → List ℕ → ℕ → Book
book_step k os room = book_after (book_decision k os room) k
