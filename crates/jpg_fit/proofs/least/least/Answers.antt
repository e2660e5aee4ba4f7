use Rattle.std.proofs.Common.{◌≡◌, length, arith, rules}
use Rattle.jpg_fit.proofs.Joins.{found_least}
use Rattle.jpg_fit.proofs.least.least.Goals as goal

pub returns-clause-value : goal.returns-clause-value
returns-clause-value c =
    let l : length c.args.counts.now ≡ 257 = search rules in
    found_least c.args.counts.now c.loop-number.number c.loop-number.best (omega (arith, l, c.loop-number-test.false, c.loop-number.auto.number-end)) c.loop-number.invariant.value
