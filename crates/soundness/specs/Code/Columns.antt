-- Columns of what the rows not empty have to be compared by, to be tested for soundness.
use Rattle.std.specs.Prelude.{Bool, ◌&&◌, not, cond, eqb, leb, List, [], ◌∷◌, length, None, Option, Some}
use Rattle.octets.specs.Lists.{any, all, distinct, filter_map}
use Rattle.board.specs.declared.Entry.{Entry}
use Rattle.board.specs.declared.Row.{Row}
use Rattle.board.specs.LinkIds.{most_link_ids}
use Rattle.board.specs.Code.RowTests.{fits}
use Rattle.row_soundness.specs.declared.keys.JoinedLeg.{JoinedLeg}
use Rattle.row_soundness.specs.Code.RowKeys.{leg_in, reference_in, link_in, same_reference, same_link, joined_in}
use Rattle.row_soundness.specs.Code.RowKeys.{in_row, answers_joined}
use Rattle.soundness.specs.declared.Columns.{Columns}

module _ {A : Type 0} where
  abbrev pub one_or_none : Option A → List A
  one_or_none None = []
  one_or_none (Some x) = x ∷ []

  -- what the rows have of a kind, in their order
  abbrev pub column : (Entry → Option A) → List Row → List A
  column f rows = filter_map (in_row f) rows

-- the rows in columns
abbrev pub columns_of : List Row → Columns
columns_of rows = record {
  legs = record { items = column leg_in rows };
  references = record { items = column reference_in rows };
  links = record { items = column link_in rows };
  joined = record { items = column joined_in rows };
}

-- nothing where a row does not fit
abbrev pub gathered : List Row → Option Columns
gathered rows = cond (all fits rows) (Some (columns_of rows)) None

-- each joined leg has another as its partner that is joined back to it, not both alerting
abbrev pub all_answered : List JoinedLeg → Bool
all_answered js = all (λ (j : JoinedLeg). not (eqb j.leg j.partner) && any (answers_joined j) js) js

-- the test of the columns
abbrev pub sound_columns : Columns → Bool
sound_columns c =
    distinct eqb c.legs.items
    && (distinct same_reference c.references.items
    && (distinct same_link c.links.items
    && (leb (length c.links.items) most_link_ids
    && all_answered c.joined.items)))
