use lib.ListN.{length-append}
use Rattle.component.specs.Answers.{integer, answer_octets}
use Rattle.component.proofs.WriterLaws.{follow}
use Rattle.component.proofs.answers.put_answer.Goals as goal

pub returns-in-Error : goal.returns-in-Error
unfolding answer_octets
returns-in-Error c = rw c.in-Error.is (λ h. follow c.in-Error.id c.put_start.ensures c.put.ensures h (rw (length-append (integer c.in-Error.id))))
