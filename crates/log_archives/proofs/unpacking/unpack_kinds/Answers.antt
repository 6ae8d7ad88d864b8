use mathlib.Core.Path.{sym}
use Rattle.log_archives.proofs.Tables.{all_known}
use Rattle.log_archives.proofs.Unpacked.{unknown_refused, bodies_refused, past_kinds}
use Rattle.log_archives.proofs.unpacking.unpack_kinds.Goals as goal

pub returns-in-Some : goal.returns-in-Some
returns-in-Some c = unknown_refused c.args.front.now c.args.kinds.now c.args.bodies.now c.args.target.now c.in-Some.number c.in-Some.ensures

pub new-requires-clause-listed : goal.new-requires-clause-listed
new-requires-clause-listed c = all_known 0 c.args.kinds.now (sym c.in_default.ensures)

pub returns-in_default-new : goal.returns-in_default-new
returns-in_default-new c = bodies_refused c.args.front.now c.args.kinds.now c.args.bodies.now c.args.target.now c.in_default.ensures c.in_default-new.ensures

pub returns : goal.returns
returns c =
    let b = c.in-Some-new.ensures in
    rw (past_kinds c.args.front.now c.args.kinds.now c.args.bodies.now c.args.target.now c.in_default.ensures b.agrees, ← b.records) c.unpack_records.ensures
