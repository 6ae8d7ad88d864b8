use mathlib.Core.Path.{sym, ◌∙◌}
use borrow.Author.Tests.{leb-true}
use Rattle.std.proofs.Common.{rules}
use Rattle.filling.proofs.Putting.{both}
use Rattle.log_text.proofs.TextLaws.{all_put, filled}
use Rattle.log_text.proofs.record_line.Goals as goal

pub returns : goal.returns
returns c =
    let q = rw c.from.ensures at c.put_number-2.ensures in
    let r = rw c.from-2.ensures at c.put_number-3.ensures in
    let room = leb-true _ _ (sym c.record_fits.ensures ∙ search rules) in
    let p = all_put (both c.put_number.ensures (both q (both r (both c.put_octets.ensures c.put.ensures.put)))) c.new-line.ensures.kept c.new-line.ensures.place room in
    filled c.new-line.ensures.kept c.new-line.ensures.place room p (search (rules, p.same)) (search rules)
