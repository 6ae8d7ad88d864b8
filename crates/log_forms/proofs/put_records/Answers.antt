use Rattle.filling.proofs.Putting.{nothing, both}
use Rattle.log_forms.proofs.RecordByRecord.{none_moved, good_first, first_moved}
use Rattle.log_forms.proofs.put_records.Goals as goal

pub put_record-requires : goal.put_record-requires
put_record-requires c = (good_first c.args.form c.loop-record.rest.now c.in-Some.record.now c.in-Some.later.now c.in-Some.ensures c.loop-record.invariant.faultless).0

pub loop-record-preserved : goal.loop-record-preserved
loop-record-preserved c =
    let l = c.loop-record in
    record {
      faultless = (good_first c.args.form l.rest.now c.in-Some.record.now c.in-Some.later.now c.in-Some.ensures l.invariant.faultless).1;
      whole = λ f p. l.invariant.whole f (rw (first_moved c.args.form l.rest.now c.in-Some.record.now c.in-Some.later.now c.in-Some.ensures) (both c.put_record.ensures p));
    }

pub returns : goal.returns
returns c = let l = c.loop-record in l.invariant.whole l.out (rw (none_moved c.args.form l.rest.now c.in_default.ensures) (λ _. nothing l.out))
