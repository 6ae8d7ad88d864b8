use mathlib.Core.Path.{sym, ◌∙◌}
use Rattle.std.proofs.Common.{arith}
use Rattle.events.proofs.LogRecords.{front}
use Rattle.log_archives.proofs.RecordByRecord.{none_judged, bad_judged, good_judged}
use Rattle.log_archives.proofs.judging.judge.Goals as goal

pub returns-in-Some-refusal_of : goal.returns-in-Some-refusal_of
returns-in-Some-refusal_of c =
    let l = c.loop-record in
    sym (bad_judged l.number l.rest.now c.in-Some.record.now c.in-Some.later.now c.in-Some.ensures c.in-Some-refusal_of.refusal c.in-Some-refusal_of.ensures) ∙ l.invariant.outcome

pub loop-record-preserved : goal.loop-record-preserved
loop-record-preserved c =
    let l = c.loop-record in
    let f = front l.rest.now c.in-Some.record.now c.in-Some.later.now (sym c.in-Some.ensures) in
    record {
      number = omega (arith, f.shorter_by);
      outcome = sym (good_judged l.number l.rest.now c.in-Some.record.now c.in-Some.later.now c.in-Some.ensures (sym c.in_default-refusal_of.ensures)) ∙ l.invariant.outcome;
    }

pub returns : goal.returns
returns c = let l = c.loop-record in sym (none_judged l.number l.rest.now c.in_default.ensures) ∙ l.invariant.outcome
