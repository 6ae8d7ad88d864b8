-- A board has 64 rows: what owning one tells.
use mathlib.Core.Path.{◌≡◌}
use lib.ListN.{length}
use denote.Laws.{Is}
use denote.Struct.Declared.{row}
use denote.Struct.Laws as S
use Rattle.board.specs.declared.Board.{Board}
use Rattle.board.specs.contracts.Board as B
use Rattle.board.proofs.Board.TheLaws as L

pub board_long : (b : Board) → Is (row B.the_type) b (S.vals B.the_type L.the_laws b) → length b.rows ≡ 64
board_long b g = g.1.1.0.1.0.1
