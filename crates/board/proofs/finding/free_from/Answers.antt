use borrow.Author.Rules.{rules}
use Prim.Native.Nat.{◌-◌, ◌+◌}
use native.Mathlib.Omega.{arith}
use mathlib.Core.Path.{ap, ◌∙◌}
use Rattle.octets.specs.declared.LinkId.{LinkId}
use Rattle.octets.proofs.Places.{told}
use Rattle.board.specs.LinkIds.{most_link_ids, live, free_link_id, optional_link_id}
use Rattle.board.proofs.FreeLinkIds.{free_here, free_next}
use Rattle.board.specs.Entries.{taken, calls}
use Rattle.board.proofs.finding.free_from.Goals as goal

pub returns-then-not-has : goal.returns-then-not-has
returns-then-not-has c = ap optional_link_id (free_here c.loop.id c.args.board.rows most_link_ids c.loop.counter (omega arith) (told c.has.ensures c.if-not-has.true) ∙ c.loop.invariant.1)

pub loop-preserved : goal.loop-preserved
loop-preserved c =
    let rows = c.args.board.rows in
    let k = c.loop.counter in
    (search rules, ap (λ (l : LinkId). free_link_id (most_link_ids - (k + 1)) l.0 (live (calls (taken rows)))) c.next-id.ensures ∙ free_next c.loop.id rows most_link_ids k (omega arith) (told c.has.ensures c.if-not-has.false) ∙ c.loop.invariant.1)
