-- References in what a contract says of a call.
use Prim.Native.Nat.{ℕ}
use mathlib.Core.List.{List}
use base.Fml.{GName}
use denote.Bor.{Bor}
use denote.MutBor.{MutBor}

-- a reference to octets that are only read, wherever they lie
abbrev pub lent_shared : ℕ × ℕ → List ℕ → Bor (List ℕ)
lent_shared at os = record { ref_ptr = at; now = os }

-- a reference to octets that may be written, wherever they lie
abbrev pub lent : (ℕ × ℕ) × GName → List ℕ → MutBor (List ℕ)
lent at os = record { ref_ptr = at.0; ghost_name = at.1; now = os }
