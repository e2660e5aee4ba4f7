use Rattle.std.proofs.Common.{◌≡◌, ◌≤◌, ◌++◌, ◌-◌, flat_map}
use Rattle.jpg_spec.specs.Lists.{below}
use Rattle.jpg_spec_image.specs.BmpFile.{colours, bmp_line, height}
use Rattle.jpg_pnm_bmp.proofs.read.make.add_rows.Given as goal

abbrev pub invariant-loop-y : goal.invariant-loop-y
invariant-loop-y l = record {
  inside : l.y ≤ height l.head;
  rows : l.made ≡ l.fn.made ++ flat_map (λ y. colours l.head l.palette (bmp_line l.head l.body y)) (below l.y);
}

abbrev pub decreases-loop-y : goal.decreases-loop-y
decreases-loop-y l = height l.head - l.y
