use native.Mathlib.Omega.{arith}
use mathlib.Core.Path.{refl}
use Rattle.component.specs.Answers.{answer_octets}
use Rattle.component.proofs.WriterLaws.{sequence}
use Rattle.component.proofs.answers.put_link_id_result.Goals as goal

pub returns : goal.returns
unfolding answer_octets
returns c =
    let o = rw c.from.ensures at c.from-o.ensures in
    rw (← o)
    (λ h. sequence c.args.id c.from-o.result c.put_start.ensures c.put.ensures c.put_object.ensures c.put_integer.ensures (omega arith) (omega arith) h refl)
