use Rattle.jpg_prog_read.proofs.AcFollows.{next_is_ac}
use Rattle.jpg_prog_read.proofs.laws.ac_intervals_follow.Goals as goal

pub returns : goal.returns
returns c = next_is_ac
