use Rattle.std.specs.Int.{w32}
use Rattle.jpg_dct.proofs.Eights.{lane}
use Rattle.jpg_dct.proofs.LaneSamples.{highs_fit, naturals_fit, lows_are}
use Rattle.jpg_dct.proofs.inverse.short.lows.Goals as goal

pub overflow_cast-high : goal.overflow_cast-high
overflow_cast-high c = highs_fit c.args.x c.requires

pub overflow_cast-result : goal.overflow_cast-result
overflow_cast-result c = naturals_fit (lane w32 c.args.x c.args.x)

pub returns : goal.returns
returns c = lows_are c.args.x c.requires
