-- Serving by the answers of the code's searches and counts.
use Rattle.std.specs.Prelude.{None, Option, Some}
use borrow.Author.Tests.{le-leb, lt-leb}
use Prim.Native.Nat.{◌<◌, ◌≤◌, ℕ}
use native.Mathlib.Omega.{arith}
use mathlib.Core.Path.{◌∙◌, ap, sym, ◌≡◌}
use mathlib.Core.Bool.{Bool, cond}
use mathlib.Core.List.{List}
use lib.Dec.{leb}
use lib.ListN.{length}
use lib.IntN.{ℤ}
use Rattle.board.specs.Entries.{calls, taken}
use Rattle.board.specs.LinkIds.{most_link_ids, free_link_id, optional_link_id, live}
use Rattle.board.specs.Code.Tallies.{tally_of}
use Rattle.board.specs.declared.Row.{Row}
use Rattle.octets.specs.declared.IntegerOctets.{IntegerOctets}
use Rattle.octets.specs.declared.LinkId.{LinkId}
use Rattle.rules.proofs.Kept.{live_length}
use Rattle.rules.specs.Serving.{new_link_id, error, assign}
use Rattle.rules.specs.declared.Service.{Service}
use Rattle.rules.specs.declared.Service.TheVariants.{AssignLinkId}
use Rattle.board.specs.declared.Tally.{Tally}

module _ (rows : List Row) (z : ℤ) (i : IntegerOctets) {t : Tally} (tally : t ≡ tally_of rows) where
  abbrev New : Service → Type 0
  New s = s ≡ new_link_id (length (live (calls (taken rows)))) i (free_link_id most_link_ids z (live (calls (taken rows))))

  links_are : t.links ≡ length (live (calls (taken rows)))
  unfolding tally_of
  links_are = ap (λ (x : Tally). x.links) tally ∙ sym (live_length (taken rows))

  pub new_full : most_link_ids ≤ t.links → New (error i 11)
  new_full h = sym (ap (λ (b : Bool). cond b (error i 11) (assign i (free_link_id most_link_ids z (live (calls (taken rows)))))) (ap (leb most_link_ids) (sym links_are) ∙ le-leb most_link_ids t.links h))

  module _ (h : t.links < most_link_ids) where
    room : new_link_id (length (live (calls (taken rows)))) i (free_link_id most_link_ids z (live (calls (taken rows)))) ≡ assign i (free_link_id most_link_ids z (live (calls (taken rows))))
    room =
        ap (λ (b : Bool). cond b (error i 11) (assign i (free_link_id most_link_ids z (live (calls (taken rows)))))) (ap (leb most_link_ids) (sym links_are) ∙ lt-leb most_link_ids t.links h)

    given : (o : Option ℤ) {id : LinkId} → optional_link_id o ≡ Some id → assign i o ≡ AssignLinkId id i
    given None e = let z : ◌≡◌ {A = ℕ} 0 1 = cc in absurd (omega arith)
    given (Some y) {id} e = let d : record { 0 = y } ≡ id = cc in ap (λ (l : LinkId). AssignLinkId l i) d

    pub new_some : {id : LinkId} {o : Option LinkId} → o ≡ optional_link_id (free_link_id most_link_ids z (live (calls (taken rows)))) → o ≡ Some id → New (AssignLinkId id i)
    new_some k e = sym (room ∙ given (free_link_id most_link_ids z (live (calls (taken rows)))) (sym k ∙ e))
