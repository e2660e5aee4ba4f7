use Rattle.jpg_coefs.proofs.Maps.{put_here, put_others, put_changes}
use Rattle.jpg_coefs.proofs.laws.one_block_changes.Goals as goal

pub returns-clause-here : goal.returns-clause-here
returns-clause-here c = put_here

pub returns-clause-others : goal.returns-clause-others
returns-clause-others c = put_others

pub returns-clause-band : goal.returns-clause-band
returns-clause-band c = put_changes
