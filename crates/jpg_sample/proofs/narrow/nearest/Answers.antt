use Rattle.std.proofs.Common.{rules, ◌+◌, ◌/◌, ◌<◌}
use Rattle.jpg_sample.proofs.Sums.{small_mean}
use Rattle.jpg_sample.proofs.narrow.nearest.Goals as goal

pub overflow_cast-result : goal.overflow_cast-result
overflow_cast-result c = (let low : (c.args.sum + c.args.count / 2) / c.args.count < 256 = small_mean c.args.sum c.args.count c.requires.count.0 c.requires.small in search (rules, low))
