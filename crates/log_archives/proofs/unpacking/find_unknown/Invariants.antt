use Rattle.std.proofs.Common.{◌≡◌, drop}
use Rattle.log_archives.specs.Judging.{first_unknown}
use Rattle.log_archives.proofs.unpacking.find_unknown.Given as goal

abbrev pub invariant-loop-before : goal.invariant-loop-before
invariant-loop-before l = first_unknown l.before (drop l.before l.kinds) ≡ first_unknown 0 l.kinds
