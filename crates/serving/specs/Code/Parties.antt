-- The parties of a board, and what the code finds among them.
use Rattle.std.specs.Prelude.{List, ℤ, Option}
use Rattle.octets.specs.declared.LinkId.{LinkId}
use Rattle.octets.specs.declared.IntegerOctets.{IntegerOctets}
use Rattle.octets.specs.Lists.{filter, find}
use Rattle.component.specs.declared.Operation.{Operation}
use Rattle.board.specs.declared.Board.{Board}
use Rattle.board.specs.declared.Entry.{Entry}
use Rattle.board.specs.declared.Party.{Party}
use Rattle.board.specs.Entries.{taken, calls, has_party_link_id}
use Rattle.board.specs.LinkIds.{most_link_ids, free_link_id, live}
use Rattle.rules.specs.Serving.{partner_for, perform}
use Rattle.rules.specs.declared.Service.{Service}

-- the rows taken of a board, and its calls with the served user
abbrev pub entries_of : Board → List Entry
entries_of b = taken b.rows

abbrev pub parties_of : Board → List Party
parties_of b = calls (entries_of b)

-- the LinkId that a request for one would give
abbrev pub free_in : Board → Option ℤ
free_in b = free_link_id most_link_ids b.candidate.0 (live (parties_of b))

-- the calls that pair with a named one; the call with a LinkId
abbrev pub paired_on : Board → Party → List Party
paired_on b p = filter (partner_for b.options p) (parties_of b)

abbrev pub linked_on : Board → LinkId → Option Party
linked_on b l = find (has_party_link_id l.0) (parties_of b)

-- what an operation comes to on the board
abbrev pub performed_on : Board → Party → IntegerOctets → Operation → Service
performed_on b p i o = perform b.options b.candidate.0 (parties_of b) p i o
