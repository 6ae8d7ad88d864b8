use Rattle.std.proofs.Common.{rules}
use Rattle.filling.proofs.Putting.{both}
use Rattle.invokes.proofs.WritingLaws.{contents_room, written}
use Rattle.invokes.proofs.write_invoke.Goals as goal

pub returns : goal.returns
returns c =
    let a = c.args in
    let room = c.if-buffer-lt32.false in
    let new = c.new-contents.ensures in
    let p = both (rw c.identifier_octets.ensures at c.put_integer.ensures.put) c.put_operation.ensures (contents_room a.operation a.identifier a.buffer.now c.new-contents.result room new.kept new.place) in
    written a.operation a.identifier a.buffer.now room new.kept new.place p (search rules) (search rules)
