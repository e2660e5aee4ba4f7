use Rattle.std.proofs.Common.{◌≡◌, ◌++◌}
use Rattle.std.specs.Prelude.{flat_map}
use Rattle.jpg_spec.specs.Lists.{below}
use Rattle.jpg_spec_words.specs.Work.{work_pixel}
use Rattle.jpg_cli.proofs.tools.work_image.add_row.Given as goal

abbrev pub invariant-loop-x : goal.invariant-loop-x
invariant-loop-x l = l.samples ≡ l.initial.samples ++ flat_map (λ x. work_pixel x l.y) (below l.x)
