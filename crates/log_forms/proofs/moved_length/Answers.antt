use lib.ListN.{length-append, length-take, length-drop}
use Rattle.std.proofs.Common.{arith}
use Rattle.log_forms.proofs.MovedRecords.{not_empty, typed_long}
use Rattle.log_forms.proofs.moved_length.Goals as goal

pub bounds-event-0 : goal.bounds-event-0
bounds-event-0 c = not_empty c.args.form c.args.event.now c.requires

pub returns-in-Old-eq9 : goal.returns-in-Old-eq9
returns-in-Old-eq9 c = rw (c.in-Old-eq9.is-0, c.in-Old-eq9.is-1) (simp (length-append, length-take, length-drop) (omega (arith, typed_long c.args.form c.args.event.now c.requires c.in-Old-eq9.is-1)))
