-- What is claimed of a Leg facility, whatever the octets of its body (document 02, slip 5).
use Rattle.std.specs.Prelude.{ℕ, ◌≡◌, ◌↔◌, Bool, not, List, [], ◌∷◌, ◌++◌, T, take, drop, get_or}
use Rattle.octets.specs.Numbers.{four}
use Rattle.subaddresses.specs.SubaddressTransfer.{is_subaddress_transfer}
use Rattle.board.specs.declared.Board.{Board}
use Rattle.board.specs.declared.Call.{Call}
use Rattle.board.specs.declared.Connection.TheVariants.{WithUser, WithPartner}
use Rattle.events.specs.EventRecords.{field, valid_component}
use Rattle.rules.specs.History.{on_board, HasRow}
use Rattle.rules.specs.SingleEvents.{Checked}

-- "leg 4, count 1 of 1 to 64, component, zeros"
abbrev pub leg_in : List ℕ → ℕ
leg_in body = field 0 4 body

abbrev pub count_in : List ℕ → ℕ
count_in body = get_or body 4 0

abbrev pub component_in : List ℕ → List ℕ
component_in body = take (count_in body) (drop 5 body)

-- checks 1 to 5 are passed; the kind is listed
abbrev pub Judged : Board → List ℕ → ℕ → Type 0
Judged b body room = Checked b room body 69 (valid_component 64 (count_in body) (drop 5 body))

-- "A SubaddressTransfer invoke .. on a joined leg", by its partner, "alerting or not"
pub record Passable (b : Board) (body : List ℕ) (partner : ℕ) : Type 0 where
  pub alerts : Bool
  pub joined : HasRow b (leg_in body) (WithPartner partner alerts)
  pub invoke : T (is_subaddress_transfer (component_in body))

-- of the number returned, the board afterwards and the octets written
pub record PassedOn (b : Board) (body : List ℕ) (room returned : ℕ) (after : Board) (octets : List ℕ) : Type 0 where
  -- accepted exactly when the checks are passed
  pub accepted : (returned ≡ 0) ↔ (Judged b body room × ((p : ℕ) × Passable b body p))
  -- "is passed on unchanged to the partner .. as reply record 0x85 with the same layout and the partner's leg"
  pub passed : (p : ℕ) → Judged b body room → Passable b body p → octets ≡ 0x85 ∷ (four p ++ drop 4 body)
  -- "Checks: 10 for no such leg, then 11 for a leg still with the served user, then a new 12 for a component that
  -- isn't such an invoke"
  pub no_such_leg : Judged b body room → T (not (on_board b (leg_in body))) → returned ≡ 10
  pub with_user : Judged b body room → (c : Call) → HasRow b (leg_in body) (WithUser c) → returned ≡ 11
  pub no_such_invoke : Judged b body room → (p : ℕ) (a : Bool) → HasRow b (leg_in body) (WithPartner p a) →
      T (not (is_subaddress_transfer (component_in body))) → returned ≡ 12
  -- with a refusal nothing is written
  pub refused : (returned ≡ 0 → ⊥) → octets ≡ []
  -- "The board doesn't change", accepted or refused
  pub board_stays : after ≡ b
