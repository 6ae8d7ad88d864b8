use Prim.Native.Nat.{◌≤◌, ◌-◌}
use mathlib.Core.Path.{◌≡◌}
use Rattle.board.specs.LinkIds.{most_link_ids, live, free_link_id}
use Rattle.board.specs.Entries.{taken, calls}
use Rattle.board.proofs.finding.free_from.Given as goal

abbrev pub invariant-loop : goal.invariant-loop
invariant-loop l = (l.counter ≤ most_link_ids) × (free_link_id (most_link_ids - l.counter) l.id.0 (live (calls (taken l.board.rows))) ≡ free_link_id most_link_ids l.initial.id.0 (live (calls (taken l.board.rows))))
