use Rattle.digits.proofs.DigitLaws.{fifteen_copied}
use Rattle.digits.proofs.in_fifteen.Goals as goal

pub returns : goal.returns
returns c = rw (c.copy_from_slice.ensures.after, c.min-len.ensures) (fifteen_copied c.args.s.now)
