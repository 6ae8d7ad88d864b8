use Rattle.std.proofs.Common.{flat_map}
use Prim.Native.Nat.{ℕ}
use lib.ListN.{drop}
use Rattle.events.specs.Records.{body_length, records}
use Rattle.filling.specs.declared.Filling.{Filling}
use Rattle.filling.specs.Code.Putting.{PutGivenRoom}
use Rattle.log_archives.specs.Regrouping.{bodies_of, columns}
use Rattle.log_archives.proofs.packing.put_grouped.Given as goal

-- whatever puts the rest from here on has put the whole
abbrev pub invariant-loop-kind : goal.invariant-loop-kind
invariant-loop-kind l =
    (f : Filling) → PutGivenRoom (flat_map (λ (kind : ℕ). columns 0 (body_length kind) (bodies_of kind (records l.log))) (drop l.kind-index l.kinds)) l.out f
    → PutGivenRoom (flat_map (λ (kind : ℕ). columns 0 (body_length kind) (bodies_of kind (records l.log))) l.kinds) l.initial.out f
