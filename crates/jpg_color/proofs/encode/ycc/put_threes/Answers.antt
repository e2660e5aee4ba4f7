use Rattle.jpg_color.proofs.PixelLanes.{made_sixteen}
use Rattle.jpg_color.proofs.encode.ycc.put_threes.Goals as goal

pub loop-c-preserved : goal.loop-c-preserved
loop-c-preserved c = (
  made_sixteen c.args.pixels.now 0 c.loop-c.c c.args.ys.now c.loop-c.ys c.put_three.new.ys c.loop-c.invariant.0 c.put_three.ensures.luminance,
  made_sixteen c.args.pixels.now 1 c.loop-c.c c.args.bs.now c.loop-c.bs c.put_three.new.bs c.loop-c.invariant.1 c.put_three.ensures.blue,
  made_sixteen c.args.pixels.now 2 c.loop-c.c c.args.rs.now c.loop-c.rs c.put_three.new.rs c.loop-c.invariant.2 c.put_three.ensures.red,
)
