use Rattle.std.proofs.Common.{◌≡◌, ◌≤◌, ◌-◌, length}
use Rattle.jpg_spec_image.specs.ImageText.{turned_round}
use Rattle.jpg_pnm_bmp.specs.TurnedRound.{turned_from}
use Rattle.jpg_pnm_bmp.proofs.write.file_row.turn_round.Given as goal

-- the pixels before `at` are reversed
abbrev pub invariant-loop-line : goal.invariant-loop-line
invariant-loop-line l = record {
  inside : l.at ≤ length l.line;
  long : length l.line ≡ length l.fn.line;
  turned : turned_from l.line l.at ≡ turned_round l.row;
}

abbrev pub decreases-loop-line : goal.decreases-loop-line
decreases-loop-line l = length l.line - l.at
