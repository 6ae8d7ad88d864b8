use mathlib.Core.Path.{◌≡◌, ◌∙◌, ap, sym}
use Rattle.std.proofs.Common.{arith, None, Some}
use Rattle.events.specs.EventRecords.{request}
use Rattle.log_archives.specs.Judging.{first_bad, refusal_in}
use Rattle.log_archives.specs.Code.Tables.{records_in}
use Rattle.log_archives.proofs.Tables.{bad_first, good_first, none_bad}
use Rattle.log_archives.proofs.unpacking.find_bad.Goals as goal

pub returns-in-Some-refusal_of : goal.returns-in-Some-refusal_of
returns-in-Some-refusal_of c =
    let l = c.loop-record in
    let r = c.in-Some.record.items in
    let rs = records_in c.read_first.new.self in
    let e : Some c.in-Some-refusal_of.refusal ≡ refusal_in (request r) = rw c.as_slice.ensures.value at c.in-Some-refusal_of.ensures in
    sym (bad_first l.number r rs c.in-Some-refusal_of.refusal e) ∙ ap (first_bad l.number) (sym c.in-Some.ensures.records) ∙ l.invariant.outcome

pub loop-record-preserved : goal.loop-record-preserved
loop-record-preserved c =
    let l = c.loop-record in
    let r = c.in-Some.record.items in
    let rs = records_in c.read_first.new.self in
    let e : None ≡ refusal_in (request r) = rw c.as_slice.ensures.value at c.in_default-refusal_of.ensures in
    record {
      in_reach = c.in-Some.ensures.in_reach;
      number = omega (arith, c.in-Some.ensures.one_less);
      outcome = sym (good_first l.number r rs e) ∙ ap (first_bad l.number) (sym c.in-Some.ensures.records) ∙ l.invariant.outcome;
    }

pub returns : goal.returns
returns c = let l = c.loop-record in sym (none_bad l.number) ∙ ap (first_bad l.number) (sym c.in_default.ensures) ∙ l.invariant.outcome
