-- What is written of records as a value. Assumes nothing.
use Prim.Native.Nat.{◌-◌}
use mathlib.Core.Path.{◌≡◌, ap}
use mathlib.Core.List.{List, ◌++◌}
use lib.ListN.{length, replicate, drop}
use Prim.Native.Nat.{ℕ}
use lib.Seq.{take-append_seam}
use Rattle.std.proofs.lemmas.List.{drop-replicate}
use Rattle.rules.specs.Replies.{ReplyRecord, octets}
use Rattle.replies.specs.declared.Out.{Out}
use Rattle.replies.specs.Code.Writing.{out_of, rendered, written}

pub rendered_written : (rs : List ReplyRecord) → written (rendered rs) ≡ octets rs
unfolding rendered
rendered_written rs = take-append_seam (octets rs) (replicate (128 - length (octets rs)) 0)

-- octets copied to the front of 128 zeros, which stand behind them
pub zeros_behind : (os : List ℕ) → ◌≡◌ {A = Out} (record { octets = os ++ drop (length os) (replicate 128 0); len = length os }) (out_of os)
zeros_behind os = ap (λ (zs : List ℕ). record { octets = os ++ zs; len = length os }) (drop-replicate (length os) 128 0)
