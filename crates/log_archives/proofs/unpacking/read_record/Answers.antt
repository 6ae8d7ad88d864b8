use mathlib.Core.Path.{◌≡◌, ◌∙◌, ap, sym}
use mathlib.Core.List.{List, append_assoc, append-nil}
use Rattle.std.proofs.Common.{arith, ℕ, ◌<◌, ◌+◌, ◌-◌, ◌∷◌, [], ◌++◌, length, get_or}
use Rattle.log_archives.specs.Undoing.{every_from}
use Rattle.log_archives.proofs.Tables.{octet_first, octet_room}
use Rattle.log_archives.proofs.unpacking.read_record.Goals as goal

pub overflow_add-place : goal.overflow_add-place
overflow_add-place c =
    let l = c.loop-record in
    let h : length l.record.items < c.record_length-length.result = omega arith in
    omega (arith, octet_room (length c.args.bodies.now) l.place c.args.step c.record_length-length.result (length l.record.items) h l.invariant.room)

pub loop-record-preserved : goal.loop-record-preserved
loop-record-preserved c =
    let l = c.loop-record in
    let n = c.record_length-length.result in
    let i = length l.record.items in
    let os = c.args.bodies.now in
    let h : i < n = omega arith in
    let r = octet_room (length os) l.place c.args.step n i h l.invariant.room in
    let more : length c.push-in-loop-record.new.self.items ≡ i + 1 = c.push-in-loop-record.ensures.len in
    record {
      within = omega arith;
      room = rw more r.1;
      whole =
          rw (more, c.push-in-loop-record.ensures.items)
          (append_assoc l.record.items (get_or os l.place 0 ∷ []) (every_from (l.place + c.args.step) c.args.step (n - (i + 1)) os)
          ∙ ap (λ (later : List ℕ). l.record.items ++ later) (sym (octet_first os l.place c.args.step n i h))
          ∙ l.invariant.whole);
    }

pub returns : goal.returns
unfolding every_from
returns c =
    let l = c.loop-record in
    let none : c.record_length-length.result - length l.record.items ≡ 0 = omega arith in
    sym (append-nil l.record.items) ∙ rw none at l.invariant.whole
