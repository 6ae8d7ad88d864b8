use mathlib.Core.Path.{sym, ap, ap₂}
use Rattle.std.proofs.Common.{arith, ◌≡◌, ℕ}
use Rattle.events.specs.declared.logs.WholeRecords.{WholeRecords}
use Rattle.events.specs.Code.Pieces.{no_whole, whole_in}
use Rattle.events.proofs.LogRecords.{front, whole_ended, whole_cut, whole_front}
use Rattle.events.proofs.logs.whole_records.Goals as goal
use Rattle.events.proofs.logs.whole_records.Goals.{in-Some+then-record-record_length, in_default}

pub loop-record-preserved : goal.loop-record-preserved
loop-record-preserved c =
    let l = c.loop-record in
    let r = c.in-Some.record.now in
    let f = front l.rest.now r c.in-Some.later.now (sym c.in-Some.ensures) in
    let w = whole_front l.rest.now r c.in-Some.later.now (sym c.in-Some.ensures) (omega (arith, c.if-record-record_length.false)) in
    record {
      number = omega (arith, f.shorter_by);
      octets = omega (arith, f.lengths, ap (λ (x : WholeRecords). x.octets) w);
      count = omega (arith, ap (λ (x : WholeRecords). x.count) w);
    }

pub returns : goal.returns
returns c =
    let l = c.loop-record in
    let e : whole_in l.rest.now ≡ no_whole = elim c.match-split_record.branch [
      | in-Some+then-record-record_length w ↦ whole_cut l.rest.now w.in-Some.record.now w.in-Some.later.now (sym w.in-Some.ensures) (omega (arith, w.if-record-record_length.true))
      | in_default w ↦ whole_ended l.rest.now (sym w.in_default.ensures)
    ] in
    ap₂ (λ (m n : ℕ). record { octets = m; count = n })
    (omega (arith, ap (λ (x : WholeRecords). x.octets) e, l.invariant.octets)) (omega (arith, ap (λ (x : WholeRecords). x.count) e, l.invariant.count))
