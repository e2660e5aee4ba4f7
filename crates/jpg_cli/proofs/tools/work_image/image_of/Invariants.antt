use Rattle.std.proofs.Common.{◌≡◌}
use Rattle.std.specs.Prelude.{flat_map}
use Rattle.jpg_spec.specs.Lists.{below}
use Rattle.jpg_spec_words.specs.Work.{work_row}
use Rattle.jpg_cli.proofs.tools.work_image.image_of.Given as goal

abbrev pub invariant-loop-y : goal.invariant-loop-y
invariant-loop-y l = l.samples ≡ flat_map (work_row l.size) (below l.y)
