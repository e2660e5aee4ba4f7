use Rattle.jpg_spec_image.proofs.Strips.{same_samples}
use Rattle.jpg_spec_image.proofs.strip_laws.samples_need_their_blocks.Goals as goal

pub returns : goal.returns
returns c = same_samples
