use Rattle.std.proofs.Common.{rules, tests}
use Rattle.std.proofs.lemmas.Iterator.{YieldsList-from_slice}
use Rattle.std.proofs.lemmas.Iterator.Search.{position_from_yields_List}
use mathlib.Core.Path.{◌∙◌, sym}
use Rattle.attendant_console.specs.Name.{is_comma}
use Rattle.attendant_console.proofs.Names.{of_digits, of_line}
use Rattle.attendant_console.proofs.name.Goals as goal

pub returns-then-is_empty : goal.returns-then-is_empty
returns-then-is_empty c =
    let line = c.args.directory_line.now in
    of_digits line c.args.digits.now
    (position_from_yields_List is_comma _ _ c.position.result c.position.ensures.ran (YieldsList-from_slice line cc) (λ x b q k. search (rules, tests)))
    c.unwrap_or-end.ensures (sym c.is_empty.ensures ∙ c.if-is_empty.true)

pub returns : goal.returns
returns c =
    let line = c.args.directory_line.now in
    of_line line c.args.digits.now
    (position_from_yields_List is_comma _ _ c.position.result c.position.ensures.ran (YieldsList-from_slice line cc) (λ x b q k. search (rules, tests)))
    c.unwrap_or-end.ensures (sym c.is_empty.ensures ∙ c.if-is_empty.false)
