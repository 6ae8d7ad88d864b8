-- What the answers of the readers say, the digits being those that are lent.
use Rattle.std.specs.Prelude.{ℕ, length, None, Option, Some}
use Rattle.private_transfers.specs.declared.RedirectionNumber.{RedirectionNumber}
use Rattle.private_transfers.specs.declared.RedirectionNumber.TheVariants as redirection
use Rattle.private_transfers.specs.declared.EctInform.{EctInform as Said}
use Rattle.private_transfers.specs.EctInform.{Number, NotSent, Restricted, Given, EctInform}

abbrev pub number_said : RedirectionNumber → Number
number_said redirection.NotSent = NotSent
number_said redirection.Restricted = Restricted
number_said (redirection.Given digits) = Given digits.now

abbrev pub number_read : Option RedirectionNumber → Option Number
number_read None = None
number_read (Some n) = Some (number_said n)

abbrev pub inform_read : Option Said → Option EctInform
inform_read None = None
inform_read (Some i) = Some (record { indication = i.indication; number = number_said i.number })

-- how many digits are given
abbrev pub digit_count : RedirectionNumber → ℕ
digit_count redirection.NotSent = 0
digit_count redirection.Restricted = 0
digit_count (redirection.Given digits) = length digits.now
