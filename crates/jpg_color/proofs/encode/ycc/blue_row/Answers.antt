use Rattle.std.proofs.Common.{rules, ◌∙◌, length}
use Rattle.std.proofs.lemmas.List.{length-set}
use Rattle.jpg_spec_encode.specs.Encoded.{pixel_component}
use Rattle.jpg_spec_image.specs.declared.image.ImageKind.TheVariants.{Rgb}
use Rattle.jpg_color.proofs.ColourRows.{blue_second}
use Rattle.jpg_color.proofs.PixelLanes.{row_made, sample_set}
use Rattle.jpg_color.proofs.encode.ycc.blue_row.Goals as goal

pub loop-x-preserved : goal.loop-x-preserved
loop-x-preserved c = (
  length-set c.loop-x.bs c.loop-x.x _ ∙ c.loop-x.invariant.0,
  sample_set (pixel_component Rgb c.args.pixels.now 1) c.loop-x.bs c.loop-x.x _ (search rules) c.loop-x.invariant.1 (c.blue_difference.ensures ∙ blue_second _ _ _),
)

pub returns : goal.returns
returns c = row_made c.args.pixels.now 1 c.loop-x.bs c.loop-x.x (length c.args.bs.now) c.loop-x.invariant.0 (search rules) c.loop-x.invariant.1
