use Rattle.std.proofs.Common.{rules, ◌+◌, take, ◌∙◌}
use Rattle.std.proofs.lemmas.List.{length-set}
use Rattle.jpg_sample.proofs.Pairs.{fill_step}
use Rattle.jpg_sample.proofs.repeat.fill.Goals as goal

pub loop-k-preserved : goal.loop-k-preserved
loop-k-preserved c = (
  length-set c.loop-k.out (c.args.at + c.loop-k.k) c.args.sample ∙ c.loop-k.invariant.0,
  fill_step c.loop-k.out (take c.args.at c.args.out.now) c.args.at c.loop-k.k c.args.sample (search rules) c.loop-k.invariant.1,
)
