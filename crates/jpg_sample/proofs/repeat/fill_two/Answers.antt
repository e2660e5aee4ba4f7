use Rattle.jpg_sample.proofs.Pairs.{fill_pair}
use Rattle.jpg_sample.proofs.repeat.fill_two.Goals as goal

pub returns-clause-value : goal.returns-clause-value
returns-clause-value c = fill_pair c.args.out.now c.args.at c.args.sample c.requires
