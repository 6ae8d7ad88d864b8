-- A request for a LinkId is given the first value that is not live, while fewer than 16 are.
use Prim.Native.Nat.{ℕ, ◌<◌}
use borrow.Author.Tests.{lt-leb}
use mathlib.Core.Path.{◌∙◌, ap, subst⁻¹}
use mathlib.Core.Bool.{Bool, cond}
use mathlib.Core.List.{List}
use lib.ListN.{length}
use lib.IntN.{ℤ}
use Rattle.board.specs.Entries.{taken, link_ids, calls}
use Rattle.board.specs.LinkIds.{free_link_id, live, most_link_ids}
use Rattle.board.specs.declared.Board.{Board}
use Rattle.octets.specs.Numbers.{InInt16Range}
use Rattle.rules.specs.LinkIdGiven.{LinkIdGiven}
use Rattle.rules.specs.Serving.{error, assign}
use Rattle.rules.proofs.Kept.{live_length, first_not_live}
use Rattle.rules.proofs.Free.{one_free}

module _ (z : ℤ) (used : List ℤ) (h : InInt16Range z) (few : length used < most_link_ids) where
  gives : LinkIdGiven z used
  gives = record {
    value = (one_free z used h few).0;
    first = first_not_live most_link_ids z used (one_free z used h few).1;
    given = λ i. ap (λ (b : Bool). cond b (error i 11) (assign i (free_link_id most_link_ids z used))) (lt-leb most_link_ids (length used) few) ∙ ap (assign i) (one_free z used h few).1;
  }

-- on every board, sound or not, while fewer than 16 LinkIds are live a call that has none is given the first value that is not live
pub link_id_given : (b : Board) → InInt16Range b.candidate.0 → link_ids (taken b.rows) < most_link_ids → LinkIdGiven b.candidate.0 (live (calls (taken b.rows)))
link_id_given b h few = gives b.candidate.0 (live (calls (taken b.rows))) h (subst⁻¹ (λ (n : ℕ). n < most_link_ids) (live_length (taken b.rows)) few)
