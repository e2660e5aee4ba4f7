use Rattle.std.proofs.Common.{◌∙◌, ◌*◌, arith}
use Rattle.jpg_sample.specs.Means.{quarter_of}
use Rattle.jpg_sample.proofs.Sums.{made_more}
use Rattle.jpg_sample.proofs.narrow.put_eights.Goals as goal

pub loop-c-preserved : goal.loop-c-preserved
loop-c-preserved c = (
  c.put_eight.ensures.long ∙ c.loop-c.invariant.0,
  λ k lt.
      made_more (quarter_of c.args.rows.now c.args.width) c.loop-c.out c.put_eight.new.out (8 * c.loop-c.c) 8 c.loop-c.invariant.1 c.put_eight.ensures.before c.put_eight.ensures.here k (omega (arith, lt)),
)
