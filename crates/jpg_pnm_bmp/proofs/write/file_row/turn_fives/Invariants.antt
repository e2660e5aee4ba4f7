use Rattle.std.proofs.Common.{◌≡◌, ◌≤◌, ◌-◌, length, drop}
use Rattle.jpg_spec_image.specs.ImageText.{turned_round}
use Rattle.jpg_pnm_bmp.specs.TurnedRound.{turned_from}
use Rattle.jpg_pnm_bmp.proofs.write.file_row.turn_fives.Given as goal

-- the pixels before `at` are reversed, and the others those of the row
abbrev pub invariant-loop-at : goal.invariant-loop-at
invariant-loop-at l = record {
  inside : l.at ≤ length l.line;
  long : length l.line ≡ length l.row;
  rest : drop l.at l.line ≡ drop l.at l.row;
  turned : turned_from l.line l.at ≡ turned_round l.row;
}

abbrev pub decreases-loop-at : goal.decreases-loop-at
decreases-loop-at l = length l.row - l.at
