use Rattle.filling.proofs.Putting.{both}
use Rattle.log_text.proofs.put_number.Goals as goal

pub returns : goal.returns
returns c = both c.put_decimal.ensures c.put.ensures.put
