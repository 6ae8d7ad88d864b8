-- What `play` promises of a piece says how much of it was read and how much was written.
use Rattle.std.proofs.Common.{rules}
use Rattle.playing.proofs.Bounds.{read_within, written_within}
use Rattle.ect_log.proofs.play_piece.Goals as goal

pub returns : goal.returns
returns c =
    let a = c.args in
    let piece = a.piece.now in (
      read_within a.board a.number piece a.is_last a.output.now _ c.play.result c.play.ensures,
      written_within a.board a.number piece a.is_last a.output.now _ c.play.result c.play.ensures (search rules),
    )
