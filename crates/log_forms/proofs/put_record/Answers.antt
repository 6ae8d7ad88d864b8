use Rattle.std.proofs.Common.{arith}
use Rattle.octets.proofs.Places.{rest}
use Rattle.filling.proofs.Putting.{both}
use Rattle.log_forms.proofs.MovedRecords.{not_empty, open_long, typed_long}
use Rattle.log_forms.proofs.put_record.Goals as goal

pub bounds-event-0 : goal.bounds-event-0
bounds-event-0 c = not_empty c.args.form c.args.event.now c.requires

pub slice_bounds-put-end-in-New-eq1 : goal.slice_bounds-put-end-in-New-eq1
slice_bounds-put-end-in-New-eq1 c = omega (arith, open_long c.args.form c.args.event.now c.requires c.in-New-eq1.is-1)

pub slice_bounds-put-count-in-New-eq1 : goal.slice_bounds-put-count-in-New-eq1
slice_bounds-put-count-in-New-eq1 c = omega (arith, open_long c.args.form c.args.event.now c.requires c.in-New-eq1.is-1)

pub slice_bounds-put-start-in-New-eq1 : goal.slice_bounds-put-start-in-New-eq1
slice_bounds-put-start-in-New-eq1 c = omega (arith, open_long c.args.form c.args.event.now c.requires c.in-New-eq1.is-1)

pub slice_bounds-put-end-in-Old-eq9-2 : goal.slice_bounds-put-end-in-Old-eq9-2
slice_bounds-put-end-in-Old-eq9-2 c = omega (arith, typed_long c.args.form c.args.event.now c.requires c.in-Old-eq9.is-1)

pub slice_bounds-put-count-in-Old-eq9-2 : goal.slice_bounds-put-count-in-Old-eq9-2
slice_bounds-put-count-in-Old-eq9-2 c = omega (arith, typed_long c.args.form c.args.event.now c.requires c.in-Old-eq9.is-1)

pub slice_bounds-put-start-in-Old-eq9-2 : goal.slice_bounds-put-start-in-Old-eq9-2
slice_bounds-put-start-in-Old-eq9-2 c = omega (arith, typed_long c.args.form c.args.event.now c.requires c.in-Old-eq9.is-1)

pub returns-in-New-eq1 : goal.returns-in-New-eq1
returns-in-New-eq1 c =
    let d = rw (rest 9 c.args.event.now) at c.put-in-New-eq1-3.ensures.put in
    rw (c.in-New-eq1.is-0, c.in-New-eq1.is-1) (both c.put.ensures.put (both c.put-in-New-eq1.ensures.put (both c.put-in-New-eq1-2.ensures.put d)))

pub returns-in-Old-eq9 : goal.returns-in-Old-eq9
returns-in-Old-eq9 c =
    let d = rw (rest 10 c.args.event.now) at c.put-in-Old-eq9-3.ensures.put in
    rw (c.in-Old-eq9.is-0, c.in-Old-eq9.is-1) (both c.put-in-Old-eq9.ensures.put (both c.put-in-Old-eq9-2.ensures.put d))
