use Rattle.replies.proofs.WritingLaws.{zeros_behind}
use Rattle.replies.proofs.Records.finish.Goals as goal

pub returns : goal.returns
returns c = rw (c.copy_from_slice.ensures.after, c.as_slice.ensures.value, c.len-len.ensures.value) (zeros_behind c.args.self.octets.items)
