use Rattle.std.proofs.Common.{◌≡◌, ◌≤◌, ◌-◌, ◌++◌, ℕ, List, length, take}
use Rattle.jpg_pnm_bmp.specs.Samples.{IsGiving, Appends}
use Rattle.jpg_pnm_bmp.proofs.read.samples.give_piece.Given as goal

-- what was taken of the piece
abbrev pub invariant-loop-at : goal.invariant-loop-at
invariant-loop-at g l = record {
  inside : l.at ≤ length l.piece;
  going : IsGiving g.W.SampleWork.kind l.work;
  gives : (bytes given : List ℕ) → g.W.SampleWork.kind.gives bytes given l.fn.work → Appends l.fn.made l.made (λ more. g.W.SampleWork.kind.gives (bytes ++ take l.at l.piece) (given ++ more) l.work);
  info : (bytes given : List ℕ) → g.W.SampleWork.kind.gives bytes given l.fn.work → g.W.SampleWork.kind.info l.work ≡ g.W.SampleWork.kind.info l.fn.work;
}

abbrev pub decreases-loop-at : goal.decreases-loop-at
decreases-loop-at g l = length l.piece - l.at
