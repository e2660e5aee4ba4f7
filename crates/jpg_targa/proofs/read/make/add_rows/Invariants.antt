use Rattle.std.proofs.Common.{◌≡◌, ◌≤◌, ◌++◌, ◌-◌, flat_map}
use Rattle.jpg_spec.specs.Lists.{below}
use Rattle.jpg_spec_image.specs.ImageText.{file_samples}
use Rattle.jpg_spec_image.specs.TargaFile.{targa_kind, targa_height, targa_row}
use Rattle.jpg_targa.proofs.read.make.add_rows.Given as goal

abbrev pub invariant-loop-y : goal.invariant-loop-y
invariant-loop-y l = record {
  inside : l.y ≤ targa_height l.head;
  rows : l.made ≡ l.fn.made ++ flat_map (λ y. file_samples (targa_kind l.head) (targa_row l.head l.pixels y)) (below l.y);
}

abbrev pub decreases-loop-y : goal.decreases-loop-y
decreases-loop-y l = targa_height l.head - l.y
