use Prim.Native.Nat.{◌≤◌}
use native.Mathlib.Omega.{arith}
use lib.ListN.{length}
use Rattle.std.proofs.Common.{rules}
use Rattle.filling.proofs.Putting.{both}
use Rattle.log_text.specs.Lines.{end_line}
use Rattle.log_text.proofs.TextLaws.{end_length, all_put, filled}
use Rattle.log_text.proofs.end_line.Goals as goal

pub returns : goal.returns
returns c =
    let room : length (end_line c.args.legs c.args.pairs c.args.links) ≤ length c.args.out.now = omega (arith, end_length c.args.legs c.args.pairs c.args.links) in
    let p = all_put (both c.put.ensures.put (both c.put_number.ensures (both c.put_number-2.ensures c.put_number-3.ensures))) c.new-line.ensures.kept c.new-line.ensures.place room in
    filled c.new-line.ensures.kept c.new-line.ensures.place room p (search (rules, p.same)) (search rules)
