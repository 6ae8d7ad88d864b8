use mathlib.Core.Path.{sym}
use mathlib.Core.List.{append-nil}
use Rattle.rules.proofs.Lengths.{no_octets}
use Rattle.replies.proofs.Records.told.Goals as goal

pub returns-in-American-clause-items : goal.returns-in-American-clause-items
returns-in-American-clause-items c = rw (c.if-party.true, c.in-American.is, no_octets) (sym (append-nil c.args.self.octets.items))
