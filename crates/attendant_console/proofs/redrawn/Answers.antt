use Rattle.std.proofs.Common.{rules, tests}
use native.Mathlib.Omega.{arith}
use mathlib.Core.Path.{◌≡◌, ◌∙◌}
use mathlib.Core.List.{map}
use lib.ListN.{length}
use Rattle.attendant_console.specs.declared.Sought.{Sought}
use Rattle.attendant_console.specs.Code.Redrawing.{sought_first}
use Rattle.attendant_console.proofs.ArrayMap.{mapped}
use Rattle.attendant_console.proofs.Redrawing.{begun, row_seen, row_empty, all_seen, as_many}
use Rattle.attendant_console.proofs.redrawn.Goals.{in-Some, in_default}
use Rattle.attendant_console.proofs.redrawn.Goals as goal

pub loop-row-init : goal.loop-row-init
loop-row-init c =
    let sixteen : length c.args.screen.lines ≡ 16 = search rules in
    let first : c.map-lines.result ≡ map sought_first c.args.screen.lines = mapped sought_first _ _ c.args.screen.lines c.map-lines.result 16 sixteen c.map-lines.ensures.items (λ p q x y k. search (rules, tests)) in
    rw first (begun c.args.rows.now c.args.screen.lines)

pub loop-row-preserved : goal.loop-row-preserved
loop-row-preserved c =
    let rows = c.args.rows.now in
    elim c.match-shown_in.branch [
      | in-Some w ↦ rw (w.lines-is, w.seek_for_all.ensures) (row_seen rows c.loop-row.row-index _ c.loop-row.lines (omega arith) c.shown_in.ensures w.in-Some.is ∙ c.loop-row.invariant)
      | in_default w ↦ rw w.lines-is (row_empty rows c.loop-row.row-index _ c.loop-row.lines (omega arith) c.shown_in.ensures w.in_default.is ∙ c.loop-row.invariant)
    ]

pub returns : goal.returns
returns c =
    let rows = c.args.rows.now in
    let screen_lines : length c.args.screen.lines ≡ 16 = search rules in
    let sixteen : length c.loop-row.lines ≡ 16 = as_many rows _ c.loop-row.lines c.args.screen.lines c.loop-row.invariant ∙ screen_lines in
    mapped (λ (t : Sought). t.found) _ _ c.loop-row.lines c.map.result 16 sixteen c.map.ensures.items (λ p q x y k. search (rules, tests))
    ∙ all_seen rows c.loop-row.row-index c.loop-row.lines (omega arith) ∙ c.loop-row.invariant
