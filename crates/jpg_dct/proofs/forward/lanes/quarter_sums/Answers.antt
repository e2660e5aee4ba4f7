use Rattle.std.proofs.Common.{◌+ℤ◌, refl}
use Rattle.jpg_spec_image.specs.Dct.{number_at}
use Rattle.jpg_dct.proofs.Eights.{quarter_sums_are, quarters_eight}
use Rattle.jpg_dct.proofs.forward.lanes.quarter_sums.Goals as goal

pub returns-clause-all : goal.returns-clause-all
returns-clause-all c =
    quarters_eight (λ k. number_at c.args.a k +ℤ number_at c.args.b k) _ refl c.requires.room (quarter_sums_are c.args.a c.args.b c.requires.lanes.0 c.requires.lanes.1 c.requires.room)

pub returns-clause-at : goal.returns-clause-at
returns-clause-at c = quarter_sums_are c.args.a c.args.b c.requires.lanes.0 c.requires.lanes.1 c.requires.room
