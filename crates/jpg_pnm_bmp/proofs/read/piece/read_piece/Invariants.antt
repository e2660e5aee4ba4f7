use Rattle.std.proofs.Common.{◌≤◌, ◌-◌, ◌++◌, ℕ, List, length, take}
use Rattle.jpg_pnm_bmp.specs.Pieces.{IsGoing}
use Rattle.jpg_pnm_bmp.proofs.read.piece.read_piece.Given as goal

-- what was read of the piece
abbrev pub invariant-loop-at : goal.invariant-loop-at
invariant-loop-at g l = record {
  inside : l.at ≤ length l.piece;
  going : IsGoing g.W.PieceWork.kind l.work;
  stands : (bytes : List ℕ) → g.W.PieceWork.kind.stands bytes l.fn.work → g.W.PieceWork.kind.stands (bytes ++ take l.at l.piece) l.work;
}

abbrev pub decreases-loop-at : goal.decreases-loop-at
decreases-loop-at g l = length l.piece - l.at
