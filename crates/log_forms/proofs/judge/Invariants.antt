use Rattle.std.proofs.Common.{◌≡◌, ◌+◌, ◌*◌, ◌≤◌, length}
use Rattle.events.specs.Records.{records}
use Rattle.log_forms.specs.Code.Judging.{judged}
use Rattle.log_forms.proofs.judge.Given as goal

-- each record has an octet at least, and is at most doubled, so neither count wraps
abbrev pub invariant-loop-record : goal.invariant-loop-record
invariant-loop-record l = record {
  number : l.number + length l.rest ≤ length l.log;
  octets : l.octets + 2 * length l.rest ≤ 2 * length l.log;
  outcome : judged l.form l.number l.octets (records l.rest) ≡ judged l.form 0 0 (records l.log);
}

abbrev pub decreases-loop-record : goal.decreases-loop-record
decreases-loop-record l = length l.rest
