use Rattle.std.proofs.Common.{rules, ◌∙◌}
use Rattle.jpg_sample.proofs.Pairs.{repeat_none, repeat_step}
use Rattle.jpg_sample.proofs.repeat.often.Goals as goal

pub loop-i-init : goal.loop-i-init
loop-i-init c = (c.requires, repeat_none c.args.times c.args.out.now)

pub loop-i-preserved : goal.loop-i-preserved
loop-i-preserved c = (
  c.fill.ensures.long ∙ c.loop-i.invariant.0,
  repeat_step c.args.times c.loop-i.i c.args.row.now c.loop-i.out c.fill.new.out (search rules) c.loop-i.invariant.1 c.fill.ensures.value,
)
