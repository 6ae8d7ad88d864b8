use Rattle.std.proofs.Common.{◌≡◌, ◌+◌, ◌≤◌, length}
use Rattle.events.specs.Code.Pieces.{whole_in}
use Rattle.events.proofs.logs.whole_records.Given as goal

-- each record has an octet at least, so the count does not wrap
abbrev pub invariant-loop-record : goal.invariant-loop-record
invariant-loop-record l = record {
  number : l.count + length l.rest ≤ length l.piece;
  octets : (whole_in l.rest).octets + length l.piece ≡ (whole_in l.piece).octets + length l.rest;
  count : (whole_in l.rest).count + l.count ≡ (whole_in l.piece).count;
}

abbrev pub decreases-loop-record : goal.decreases-loop-record
decreases-loop-record l = length l.rest
