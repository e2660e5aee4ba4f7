use Rattle.std.proofs.Common.{refl}
use Rattle.jpg_spec_image.specs.Downsampling.{down_rows}
use Rattle.jpg_spec_image.proofs.encoding_examples.rows_are_downsampled.Goals as goal

pub returns-clause-two : goal.returns-clause-two
unfolding down_rows
returns-clause-two c = refl

pub returns-clause-four : goal.returns-clause-four
unfolding down_rows
returns-clause-four c = refl

pub returns-clause-nine : goal.returns-clause-nine
unfolding down_rows
returns-clause-nine c = refl

pub returns-clause-edge : goal.returns-clause-edge
unfolding down_rows
returns-clause-edge c = refl
