use Rattle.std.proofs.Common.{rules, refl, ◌∙◌}
use Rattle.jpg_color.proofs.Pixels.{pixel_step, pixels_done, as_they_are}
use Rattle.jpg_color.proofs.decode.rgb.interleaved_row.Goals as goal

pub loop-i-preserved : goal.loop-i-preserved
loop-i-preserved c = (
  c.put.ensures.long ∙ c.loop-i.invariant.0,
  pixel_step as_they_are c.args.rs.now c.args.gs.now c.args.bs.now c.loop-i.out c.put.new.out _ c.loop-i.i (search rules) c.requires.green c.requires.blue c.loop-i.invariant.1 c.put.ensures.value refl,
)

pub returns : goal.returns
returns c =
    pixels_done as_they_are c.args.rs.now c.args.gs.now c.args.bs.now c.loop-i.out c.loop-i.i (search rules) c.requires.green c.requires.blue c.loop-i.invariant.0 c.loop-i.invariant.1
