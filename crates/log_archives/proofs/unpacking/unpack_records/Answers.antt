use Rattle.std.proofs.Common.{arith, ◌≤◌, ◌+◌, length, rules}
use Rattle.filling.proofs.Putting.{both}
use Rattle.log_archives.specs.Code.Tables.{records_in}
use Rattle.log_archives.proofs.Unpacked.{begun_length, bad_refused, small_refused, room, all_put}
use Rattle.log_archives.proofs.unpacking.unpack_records.Goals as goal
use Rattle.log_archives.proofs.unpacking.unpack_records.Goals.{then-target-octets-via-then-target-octets, then-target-octets-via-else-target-octets+then-target-octets-2}

pub returns-in-Some : goal.returns-in-Some
returns-in-Some c = bad_refused c.args.front.now (records_in c.args.undone) c.args.target.now c.in-Some.bad c.in-Some.ensures

pub returns-then-target-octets : goal.returns-then-target-octets
returns-then-target-octets c =
    let u = c.args.undone in
    let f = small_refused c.args.front.now (records_in u) c.args.target.now c.in_default.ensures (length u.kinds.now + length u.bodies.now) (begun_length u c.requires) in
    elim c.then-target-octets.branch [ then-target-octets-via-then-target-octets w ↦ f (omega arith) | then-target-octets-via-else-target-octets+then-target-octets-2 w ↦ f (omega arith) ]

pub returns : goal.returns
returns c =
    let u = c.args.undone in
    let rs = records_in u in
    let before = c.args.target.now in
    let n = length u.kinds.now + length u.bodies.now in
    let l = begun_length u c.requires in
    let enough : n + length c.args.front.now ≤ length before = omega arith in
    let new = c.new-out.ensures in
    let a = room c.args.front.now rs before c.in_default.ensures n l c.new-out.result new.place new.kept enough in
    let p = both c.put.ensures.put c.put_records.ensures a in
    all_put c.args.front.now rs before c.in_default.ensures n l enough new.kept new.place p (search (rules, p.same)) (search rules)
