use Rattle.std.proofs.Common.{◌≡◌, length, arith, rules}
use Rattle.jpg_fit.proofs.Splits.{none_counted, size_counted, few_so_far}
use Rattle.jpg_fit.proofs.counted.sizes_counted.Goals as goal

pub loop-size-init : goal.loop-size-init
loop-size-init c = none_counted c.args.sizes.now

pub count_size-requires : goal.count_size-requires
count_size-requires c =
    let l : length c.args.sizes.now ≡ 257 = search rules in
    few_so_far c.args.sizes.now c.loop-size.counts c.loop-size.size-index l c.loop-size.invariant

pub loop-size-preserved : goal.loop-size-preserved
loop-size-preserved c = size_counted c.args.sizes.now c.loop-size.counts c.count_size.new.counts c.loop-size.size-index (omega (arith, c.loop-size-test.true)) c.loop-size.invariant c.count_size.ensures
