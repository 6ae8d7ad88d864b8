use Rattle.filling.proofs.Putting.{both}
use Rattle.log_text.proofs.TextLaws.{hex_next}
use Rattle.log_text.proofs.put_octets.Goals as goal

pub loop-octet-preserved : goal.loop-octet-preserved
loop-octet-preserved c =
    rw (hex_next c.args.octets.now c.loop-octet.octet-index c.loop-octet-test.true) (both c.loop-octet.invariant c.put_octet.ensures)
