use Rattle.std.proofs.Common.{rules, tests}
use Rattle.std.proofs.lemmas.Iterator.{YieldsList-from_slice}
use Rattle.std.proofs.lemmas.Iterator.Search.{position_from_yields_List}
use mathlib.Core.Path.{◌∙◌}
use Rattle.octets.proofs.Library.{position_is}
use Rattle.attendant_console.specs.Screen.{is_empty}
use Rattle.attendant_console.proofs.empty_line.Goals as goal

pub returns : goal.returns
returns c =
    let lines = c.args.screen.now.lines in
    position_from_yields_List is_empty _ _ c.position.result c.position.ensures.ran (YieldsList-from_slice lines cc) (λ x b q k. search (rules, tests))
    ∙ position_is is_empty lines
