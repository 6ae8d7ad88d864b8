-- Octets put into a lent buffer from a place on.
use Rattle.std.specs.Prelude.{◌+◌, ◌≤◌, ◌≡◌, List, ℕ, length}
use Rattle.octets.specs.Buffers.{written_at}
use Rattle.filling.specs.declared.Filling.{Filling}

-- the buffer that is being filled has room for the octets
abbrev pub HasRoom : List ℕ → Filling → Type 0
HasRoom os filling = filling.at + length os ≤ length filling.buffer.now

-- the octets were put there, and the next octet goes behind them, into the same buffer
pub record Put (os : List ℕ) (before after : Filling) : Type 0 where
  pub same : after.buffer.ghost_name ≡ before.buffer.ghost_name
  pub is : after.buffer.now ≡ written_at before.at os before.buffer.now
  pub place : after.at ≡ before.at + length os
  pub long : length after.buffer.now ≡ length before.buffer.now

-- with room the octets were put, whatever is without
abbrev pub PutGivenRoom : List ℕ → Filling → Filling → Type 0
PutGivenRoom os before after = HasRoom os before → Put os before after

-- with room the octets were put; without it nothing changed
pub record PutIfRoom (os : List ℕ) (before after : Filling) : Type 0 where
  pub put : HasRoom os before → Put os before after
  pub kept : (HasRoom os before → ⊥) → after ≡ before
