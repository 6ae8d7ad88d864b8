use Rattle.std.proofs.lemmas.List.{nil_from_length}
use Rattle.log_archives.proofs.Tables.{first_read, none_left}
use Rattle.log_archives.proofs.unpacking.Undone.read_first.Goals as goal

pub returns-in_err-kind : goal.returns-in_err-kind
returns-in_err-kind c =
    let u = c.args.self.now in
    rw c.from_residual.ensures (none_left u (nil_from_length u.kinds.now c.in_err-kind.ensures.cases))

pub returns : goal.returns
returns c =
    rw c.from-k.ensures
    (first_read c.args.self.now c.in_ok-kind.kind.now c.in_ok-kind.later c.read_record-record.result.items c.in_ok-kind.ensures.cases.0 c.requires (rw c.from-k.ensures at c.read_record-record.ensures))
