-- Why the references must differ: two events on one reference, computed in both orders.
use Rattle.std.specs.Prelude.{◌≡◌, [], ◌∷◌, pos, replicate, None}
use Rattle.board.specs.declared.Board.{Board}
use Rattle.board.specs.declared.Standing.TheVariants.{Served}
use Rattle.board.specs.declared.Direction.TheVariants.{Outgoing}
use Rattle.board.specs.declared.CallState.TheVariants.{OutgoingCallProceeding}
use Rattle.board.specs.declared.AuxiliaryState.TheVariants.{Idle}
use Rattle.board.specs.Making.{empty_row, options}
use Rattle.rules.specs.History.{Event, returns}

-- leg 7 with the call of reference 1, in state 3 and Idle
abbrev pub one_call : Board
one_call = record {
  rows = record {
    leg = 7;
    number = empty_row.number;
    standing = Served (record { reference = record { 0 = 1 }; direction = Outgoing; state = OutgoingCallProceeding; auxiliary = Idle; link = None });
  } ∷ replicate 63 empty_row;
  options = options 2 1;
  candidate = record { 0 = pos 0 };
}

-- Progress of reference 1 to state 4, and Hold of reference 1 to Hold Request, which states 4 and 10 alone permit
abbrev pub progress_to_4 : Event
progress_to_4 = record { octets = 2 ∷ 0 ∷ 1 ∷ 4 ∷ []; room = 128 }

abbrev pub hold_request : Event
hold_request = record { octets = 3 ∷ 0 ∷ 1 ∷ 1 ∷ []; room = 128 }

pub record OneReference : Type 0 where
  pub progress_first : returns one_call (progress_to_4 ∷ hold_request ∷ []) ≡ 0 ∷ 0 ∷ []
  -- the Hold returns 11 where it comes first
  pub hold_first : returns one_call (hold_request ∷ progress_to_4 ∷ []) ≡ 11 ∷ 0 ∷ []
