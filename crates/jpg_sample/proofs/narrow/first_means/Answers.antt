use Rattle.jpg_sample.proofs.Sums.{nothing_made}
use Rattle.jpg_sample.proofs.narrow.first_means.Goals as goal

pub means-requires-clause-made : goal.means-requires-clause-made
means-requires-clause-made c = nothing_made c.args.ratio.across c.args.ratio.down c.args.width c.args.rows.now
