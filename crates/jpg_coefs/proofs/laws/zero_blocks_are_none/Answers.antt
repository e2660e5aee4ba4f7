use Rattle.jpg_coefs.proofs.Maps.{blank_is}
use Rattle.jpg_coefs.proofs.laws.zero_blocks_are_none.Goals as goal

pub returns : goal.returns
returns c = blank_is
