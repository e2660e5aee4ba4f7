use Rattle.jpg_sample.specs.Means.{row_part}
use Rattle.jpg_sample.proofs.Sums.{sum_added, sum_bound}
use Rattle.jpg_sample.proofs.narrow.block_sum.Goals as goal

pub loop-v-preserved : goal.loop-v-preserved
loop-v-preserved c = (
  sum_added (row_part c.args.rows.now c.args.width c.args.across c.args.first) c.loop-v.v c.loop-v.sum c.row_sum-sum.result c.loop-v.invariant.0 c.row_sum-sum.ensures.value,
  sum_bound c.args.across c.loop-v.v c.loop-v.sum c.row_sum-sum.result c.loop-v.invariant.1 c.row_sum-sum.ensures.bound,
)
