use Rattle.serving.proofs.ServingLaws.{new_some}
use Rattle.serving.proofs.assign_link_id.Goals as goal

pub returns-in-Some : goal.returns-in-Some
returns-in-Some c =
    let s = c.args in
    new_some s.board.now.rows s.board.now.candidate.0 s.identifier c.tally.ensures c.if-tally-ge-MOST_LINK_IDS.false c.free_link_id.ensures c.in-Some.is
