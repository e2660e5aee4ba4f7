use Rattle.std.proofs.Common.{rules, ◌∙◌}
use Rattle.jpg_spec_image.specs.RedGreenBlue.{to_rgb}
use Rattle.jpg_color.proofs.Pixels.{pixel_step, pixels_done}
use Rattle.jpg_color.proofs.decode.rgb.rgb_row.Goals as goal

pub loop-i-preserved : goal.loop-i-preserved
loop-i-preserved c = (
  c.put.ensures.long ∙ c.loop-i.invariant.0,
  pixel_step to_rgb c.args.ys.now c.args.cbs.now c.args.crs.now c.loop-i.out c.put.new.out c.to_rgb.result c.loop-i.i (search rules) c.requires.blue c.requires.red c.loop-i.invariant.1 c.put.ensures.value c.to_rgb.ensures,
)

pub returns : goal.returns
returns c =
    pixels_done to_rgb c.args.ys.now c.args.cbs.now c.args.crs.now c.loop-i.out c.loop-i.i (search rules) c.requires.blue c.requires.red c.loop-i.invariant.0 c.loop-i.invariant.1
