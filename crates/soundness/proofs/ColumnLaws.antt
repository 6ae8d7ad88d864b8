-- How far rows are read into columns, for the loop that reads them.
use Rattle.std.specs.Prelude.{Option}
use Prim.Native.Nat.{ℕ, ◌≤◌}
use mathlib.Core.Path.{◌≡◌}
use mathlib.Core.List.{List, ◌++◌}
use lib.ListN.{length, drop}
use Rattle.octets.specs.Lists.{all}
use Rattle.board.specs.declared.Row.{Row}
use Rattle.board.specs.declared.Entry.{Entry}
use Rattle.board.specs.Code.RowTests.{fits}
use Rattle.row_soundness.specs.Code.RowKeys.{leg_in, reference_in, link_in, joined_in}
use Rattle.soundness.specs.declared.Columns.{Columns}
use Rattle.soundness.specs.Code.Columns.{column}

-- ---- a column that is being read: its items are what the first i rows have of a kind

pub record Column {A : Type 0} (f : Entry → Option A) (rows : List Row) (i : ℕ) (items : List A) : Type 0 where
  pub within : length items ≤ i
  pub whole : items ++ column f (drop i rows) ≡ column f rows

-- ---- all columns: the first i rows are read, and they fit

pub record ReadTo (rows : List Row) (i : ℕ) (c : Columns) : Type 0 where
  pub fit : all fits (drop i rows) ≡ all fits rows
  pub the_legs : Column leg_in rows i c.legs.items
  pub the_references : Column reference_in rows i c.references.items
  pub the_links : Column link_in rows i c.links.items
  pub the_joined : Column joined_in rows i c.joined.items
