use Rattle.std.proofs.Common.{rules, ◌∙◌}
use Rattle.jpg_sample.proofs.Pairs.{repeat_none, repeat_step}
use Rattle.jpg_sample.proofs.repeat.twice.Goals as goal

pub loop-i-init : goal.loop-i-init
loop-i-init c = (c.requires, repeat_none 2 c.args.out.now)

pub loop-i-preserved : goal.loop-i-preserved
loop-i-preserved c = (
  c.fill_two.ensures.long ∙ c.loop-i.invariant.0,
  repeat_step 2 c.loop-i.i c.args.row.now c.loop-i.out c.fill_two.new.out (search rules) c.loop-i.invariant.1 c.fill_two.ensures.value,
)
