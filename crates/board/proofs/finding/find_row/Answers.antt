use Rattle.std.proofs.Common.{rules, tests}
use Rattle.std.proofs.lemmas.Iterator.{YieldsList-from_slice}
use Rattle.std.proofs.lemmas.Iterator.Consumers.{YieldsList-from_copied}
use Rattle.std.proofs.lemmas.Iterator.Search.{find_from_yields_List}
use Rattle.std.proofs.lemmas.Iterator.Adapters.{option_map_id}
use mathlib.Core.Path.{sym, ◌∙◌}
use Rattle.octets.proofs.Library.{find_is}
use Rattle.board.specs.Code.Keys.{matches_key}
use Rattle.board.proofs.finding.find_row.Goals as goal

pub returns : goal.returns
returns c =
    let rows = c.args.rows.now in
    sym (option_map_id c.find.result)
    ∙ find_from_yields_List (matches_key c.args.key) _ _ c.find.result c.find.ensures.ran (YieldsList-from_copied (YieldsList-from_slice rows cc)) (λ x b q k. search (rules, tests))
    ∙ find_is (matches_key c.args.key) rows
