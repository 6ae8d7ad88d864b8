use Rattle.std.proofs.Common.{length, map}
use Rattle.events.specs.Records.{records}
use Rattle.filling.specs.declared.Filling.{Filling}
use Rattle.filling.specs.Code.Putting.{PutGivenRoom}
use Rattle.log_archives.specs.Regrouping.{kind_of}
use Rattle.log_archives.proofs.packing.put_kinds.Given as goal

-- whatever puts the rest from here on has put the whole
abbrev pub invariant-loop-record : goal.invariant-loop-record
invariant-loop-record l = (f : Filling) → PutGivenRoom (map kind_of (records l.rest)) l.out f → PutGivenRoom (map kind_of (records l.log)) l.initial.out f

abbrev pub decreases-loop-record : goal.decreases-loop-record
decreases-loop-record l = length l.rest
