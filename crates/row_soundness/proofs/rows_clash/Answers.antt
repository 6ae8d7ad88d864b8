use Rattle.row_soundness.proofs.KeyLaws.{clash_by_keys}
use Rattle.row_soundness.proofs.rows_clash.Goals as goal

pub returns : goal.returns
returns c =
    rw (
      c.both_same.ensures,
      c.both_same-2.ensures,
      c.both_same-3.ensures,
      c.leg.ensures,
      c.leg-2.ensures,
      c.reference.ensures,
      c.reference-2.ensures,
      c.link.ensures,
      c.link-2.ensures,
    )
    (clash_by_keys c.args.a c.args.b)
