use mathlib.Core.Path.{◌≡◌}
use Rattle.std.proofs.Common.{arith, ◌≤◌, ◌+◌, length, rules, Err}
use Rattle.filling.proofs.Putting.{both}
use Rattle.events.specs.Records.{records}
use Rattle.log_forms.proofs.MovedBehind.{bad_refused, small_refused, room, all_moved}
use Rattle.log_forms.proofs.move_behind.Goals as goal
use Rattle.log_forms.proofs.move_behind.Goals.{then-target-octets-via-then-target-octets, then-target-octets-via-else-target-octets+then-target-octets-2}

pub returns-in_err-octets : goal.returns-in_err-octets
returns-in_err-octets c =
    let e : c.from_residual.result ≡ Err c.in_err-octets.field-0.0 = search rules in
    rw e (bad_refused c.args.form (records c.args.log.now) c.args.front.now c.args.target.now c.in_err-octets.field-0.0 c.in_err-octets.ensures)

pub returns-then-target-octets : goal.returns-then-target-octets
returns-then-target-octets c =
    let f = small_refused c.args.form (records c.args.log.now) c.args.front.now c.args.target.now c.in_ok-octets.octets c.in_ok-octets.ensures in
    elim c.then-target-octets.branch [ then-target-octets-via-then-target-octets w ↦ f (omega arith) | then-target-octets-via-else-target-octets+then-target-octets-2 w ↦ f (omega arith) ]

pub returns : goal.returns
returns c =
    let rs = records c.args.log.now in
    let enough : c.in_ok-octets.octets + length c.args.front.now ≤ length c.args.target.now = omega arith in
    let new = c.new-out.ensures in
    let a = room c.args.form rs c.args.front.now c.args.target.now c.in_ok-octets.octets c.in_ok-octets.ensures c.new-out.result new.place new.kept enough in
    let p = both c.put.ensures.put c.put_records.ensures a in
    all_moved c.args.form rs c.args.front.now c.args.target.now c.in_ok-octets.octets c.in_ok-octets.ensures enough new.kept new.place p (search (rules, p.same)) (search rules)
