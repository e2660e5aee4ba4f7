use Rattle.std.proofs.Common.{rules, length, refl}
use Rattle.jpg_color.proofs.PixelLanes.{all_made}
use Rattle.jpg_color.proofs.encode.ycc.ycc_row.Goals as goal

pub returns-clause-luminance : goal.returns-clause-luminance
returns-clause-luminance c = all_made c.args.pixels.now 0 c.loop-x.x c.args.ys.now c.loop-x.ys (length c.args.ys.now) c.loop-x.invariant.0 refl (search rules)

pub returns-clause-blue : goal.returns-clause-blue
returns-clause-blue c = all_made c.args.pixels.now 1 c.loop-x.x c.args.cbs.now c.loop-x.cbs (length c.args.ys.now) c.loop-x.invariant.1 c.requires.blue (search rules)

pub returns-clause-red : goal.returns-clause-red
returns-clause-red c = all_made c.args.pixels.now 2 c.loop-x.x c.args.crs.now c.loop-x.crs (length c.args.ys.now) c.loop-x.invariant.2 c.requires.red (search rules)
