use Rattle.std.proofs.Common.{◌≡◌, ◌≤◌, ◌<◌, ◌+◌, ◌*◌, ◌-◌, ◌∷◌, ◌++◌, length}
use Rattle.events.specs.Records.{body_length}
use Rattle.log_archives.specs.Undoing.{every_from}
use Rattle.log_archives.proofs.unpacking.read_record.Given as goal

-- the octets still to come are those that the record lacks
abbrev pub invariant-loop-record : goal.invariant-loop-record
invariant-loop-record l = let left = l.length - length l.record.items in record {
  within : length l.record.items ≤ l.length;
  room : l.place + l.step * left < length l.bodies + l.step;
  whole : l.record.items ++ every_from l.place l.step left l.bodies ≡ l.kind ∷ every_from l.start l.step (body_length l.kind) l.bodies;
}

abbrev pub decreases-loop-record : goal.decreases-loop-record
decreases-loop-record l = l.length - length l.record.items
