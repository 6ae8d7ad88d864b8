use Rattle.std.proofs.Common.{◌-◌}
use Rattle.events.specs.Records.{body_length, records}
use Rattle.filling.specs.declared.Filling.{Filling}
use Rattle.filling.specs.Code.Putting.{PutGivenRoom}
use Rattle.log_archives.specs.Regrouping.{bodies_of, columns}
use Rattle.log_archives.proofs.packing.put_bodies.Given as goal

-- whatever puts the rest from here on has put the whole
abbrev pub invariant-loop-place : goal.invariant-loop-place
invariant-loop-place l =
    (f : Filling) → PutGivenRoom (columns l.place (body_length l.kind - l.place) (bodies_of l.kind (records l.log))) l.out f
    → PutGivenRoom (columns 0 (body_length l.kind) (bodies_of l.kind (records l.log))) l.initial.out f
