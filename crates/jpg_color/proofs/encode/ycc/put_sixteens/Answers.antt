use Rattle.std.proofs.Common.{◌∙◌, ◌*◌, arith}
use Rattle.jpg_spec_encode.specs.Encoded.{pixel_component}
use Rattle.jpg_spec_image.specs.declared.image.ImageKind.TheVariants.{Rgb}
use Rattle.jpg_sample.proofs.Sums.{made_more}
use Rattle.jpg_color.proofs.encode.ycc.put_sixteens.Goals as goal

pub loop-c-preserved : goal.loop-c-preserved
loop-c-preserved c = (
  c.put_sixteen.ensures.long ∙ c.loop-c.invariant.0,
  λ k lt.
      made_more (pixel_component Rgb c.args.pixels.now c.args.i) c.loop-c.out c.put_sixteen.new.out (16 * c.loop-c.c) 16 c.loop-c.invariant.1 c.put_sixteen.ensures.before c.put_sixteen.ensures.here k
      (omega (arith, lt)),
)
