use Rattle.jpg_prog_read.proofs.KnownBits.{are_known}
use Rattle.jpg_prog_read.proofs.laws.scans_tell_coefficients_down_to_a_bit.Goals as goal

pub returns : goal.returns
returns c = are_known
