use Rattle.std.proofs.Common.{◌≡◌, ◌++◌, take, flat_map}
use Rattle.jpg_spec_image.specs.BmpFile.{colour}
use Rattle.jpg_pnm_bmp.proofs.read.make.add_coloured.Given as goal

abbrev pub invariant-loop-index : goal.invariant-loop-index
invariant-loop-index l = l.made ≡ l.fn.made ++ flat_map (colour l.palette) (take l.index-index l.row)
