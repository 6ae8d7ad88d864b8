use Rattle.std.proofs.Common.{◌≡◌, true}
use lib.ListN.{drop}
use Rattle.filling.specs.declared.Filling.{Filling}
use Rattle.filling.specs.Code.Putting.{PutGivenRoom}
use Rattle.log_archives.specs.Code.Columns.{octets_behind, within}
use Rattle.log_archives.proofs.packing.put_column.Given as goal

-- whatever puts the rest from here on has put the whole
abbrev pub invariant-loop-start : goal.invariant-loop-start
invariant-loop-start l = record {
  inside : within l.place l.log (drop l.start-index l.starts) ≡ true;
  whole : (f : Filling) → PutGivenRoom (octets_behind l.place l.log (drop l.start-index l.starts)) l.out f → PutGivenRoom (octets_behind l.place l.log l.starts) l.initial.out f;
}
