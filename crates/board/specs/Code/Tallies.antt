-- What one row adds to each count, and the counts of rows before joined rows are halved.
use Rattle.std.specs.Prelude.{◌/◌, List, length}
use Rattle.octets.specs.Lists.{filter}
use Rattle.octets.specs.Tests.{bit}
use Rattle.board.specs.declared.Row.{Row}
use Rattle.board.specs.declared.Tally.{Tally}
use Rattle.board.specs.declared.Counts.{Counts}
use Rattle.board.specs.Entries.{Entry, taken, is_joined, link_ids}
use Rattle.board.specs.Code.RowTests.{taken_row, joined_row, linked_row}

abbrev pub row_tally : Row → Tally
row_tally r = record { legs = bit (taken_row r); joined = bit (joined_row r); links = bit (linked_row r) }

unfoldable pub tally_of : List Row → Tally
tally_of rows = record {
  legs = length (taken rows);
  joined = length (filter (λ (e : Entry). is_joined e.connection) (taken rows));
  links = link_ids (taken rows);
}

-- the counts that a tally comes to: joined rows are two to a pair
abbrev pub counts_in : Tally → Counts
counts_in t = record { legs = t.legs; pairs = t.joined / 2; links = t.links }
