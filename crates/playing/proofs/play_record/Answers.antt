use native.Mathlib.Omega.{arith}
use mathlib.Core.Path.{◌≡◌, sym}
use lib.ListN.{length, length-take}
use borrow.Author.Rules.{rules}
use Rattle.rules.specs.Step.{step_tested}
use Rattle.playing.proofs.PlayingLaws.{count_within, told, outcome_short, line_written}
use Rattle.playing.proofs.play_record.Goals as goal

pub unwrap-n-requires : goal.unwrap-n-requires
unwrap-n-requires c =
    let reply = c.step_tested-stepped.new.reply in
    let long : length reply ≡ 128 = search rules in
    line_written _ c.record_line.ensures (search rules) (search rules) (search rules) (omega (arith, length-take c.written-count.result reply, long)) c.requires.1

pub returns : goal.returns
returns c =
    let long : length c.step_tested-stepped.new.reply ≡ 128 = search rules in
    let v = c.args in
    let s = c.step_tested-stepped.ensures in
    let r = c.returned-number_returned in
    let o = step_tested v.is_sound v.board v.event.now 128 in
    told s r.ensures c.written-count.ensures (rw c.unwrap-n.ensures at c.record_line.ensures)
    (outcome_short o v.number v.event.now (search rules) (search rules) (rw (sym s.answer, sym r.ensures) (search rules))
    (rw (sym s.count, sym (long)) (count_within s (long))))
