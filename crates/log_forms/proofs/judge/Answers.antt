use mathlib.Core.Path.{sym, ◌∙◌}
use Rattle.std.proofs.Common.{arith}
use Rattle.events.proofs.LogRecords.{front}
use Rattle.log_forms.proofs.MovedRecords.{not_empty, twice}
use Rattle.log_forms.proofs.RecordByRecord.{none_judged, bad_judged, good_judged}
use Rattle.log_forms.proofs.judge.Goals as goal

pub returns-in-Some-fault_of : goal.returns-in-Some-fault_of
returns-in-Some-fault_of c =
    let l = c.loop-record in
    sym (bad_judged c.args.form l.number l.octets l.rest.now c.in-Some.record.now c.in-Some.later.now c.in-Some.ensures c.in-Some-fault_of.fault c.in-Some-fault_of.ensures) ∙ l.invariant.outcome

pub overflow_add-octets : goal.overflow_add-octets
overflow_add-octets c =
    let r = c.in-Some.record.now in
    let f = front c.loop-record.rest.now r c.in-Some.later.now (sym c.in-Some.ensures) in
    let t = twice c.args.form r (not_empty c.args.form r (sym c.in_default-fault_of.ensures)) in
    omega (arith, f.lengths)

pub loop-record-preserved : goal.loop-record-preserved
loop-record-preserved c =
    let l = c.loop-record in
    let r = c.in-Some.record.now in
    let e = sym c.in_default-fault_of.ensures in
    let f = front l.rest.now r c.in-Some.later.now (sym c.in-Some.ensures) in
    let t = twice c.args.form r (not_empty c.args.form r e) in
    record {
      number = omega (arith, f.shorter_by);
      octets = omega (arith, f.lengths);
      outcome = rw c.moved_length-octets.ensures (sym (good_judged c.args.form l.number l.octets l.rest.now r c.in-Some.later.now c.in-Some.ensures e) ∙ l.invariant.outcome);
    }

pub returns : goal.returns
returns c = let l = c.loop-record in sym (none_judged c.args.form l.number l.octets l.rest.now c.in_default.ensures) ∙ l.invariant.outcome
