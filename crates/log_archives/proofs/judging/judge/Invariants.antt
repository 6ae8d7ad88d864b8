use Rattle.std.proofs.Common.{◌≡◌, ◌+◌, ◌≤◌, length}
use Rattle.events.specs.Records.{records}
use Rattle.log_archives.specs.Code.Judging.{judged}
use Rattle.log_archives.proofs.judging.judge.Given as goal

-- each record has an octet at least, so the count does not wrap
abbrev pub invariant-loop-record : goal.invariant-loop-record
invariant-loop-record l = record {
  number : l.number + length l.rest ≤ length l.log;
  outcome : judged l.number (records l.rest) ≡ judged 0 (records l.log);
}

abbrev pub decreases-loop-record : goal.decreases-loop-record
decreases-loop-record l = length l.rest
