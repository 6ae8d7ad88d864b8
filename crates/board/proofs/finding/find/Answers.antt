use Rattle.std.proofs.Common.{rules, tests}
use Rattle.std.proofs.lemmas.Iterator.{YieldsList-from_slice}
use Rattle.std.proofs.lemmas.Iterator.Search.{position_from_yields_List}
use mathlib.Core.Path.{◌∙◌}
use Rattle.octets.proofs.Library.{position_is}
use Rattle.board.specs.Code.Keys.{matches_key}
use Rattle.board.proofs.finding.find.Goals as goal

pub returns : goal.returns
returns c =
    let rows = c.args.rows.now in
    position_from_yields_List (matches_key c.args.key) _ _ c.position.result c.position.ensures.ran (YieldsList-from_slice rows cc) (λ x b q k. search (rules, tests))
    ∙ position_is (matches_key c.args.key) rows
