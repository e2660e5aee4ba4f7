use Rattle.std.proofs.Common.{rules, ◌∙◌, length}
use Rattle.std.proofs.lemmas.List.{length-set}
use Rattle.jpg_spec_encode.specs.Encoded.{pixel_component}
use Rattle.jpg_spec_image.specs.declared.image.ImageKind.TheVariants.{Rgb}
use Rattle.jpg_color.proofs.ColourRows.{red_third}
use Rattle.jpg_color.proofs.PixelLanes.{row_made, sample_set}
use Rattle.jpg_color.proofs.encode.ycc.red_row.Goals as goal

pub loop-x-preserved : goal.loop-x-preserved
loop-x-preserved c = (
  length-set c.loop-x.rs c.loop-x.x _ ∙ c.loop-x.invariant.0,
  sample_set (pixel_component Rgb c.args.pixels.now 2) c.loop-x.rs c.loop-x.x _ (search rules) c.loop-x.invariant.1 (c.red_difference.ensures ∙ red_third _ _ _),
)

pub returns : goal.returns
returns c = row_made c.args.pixels.now 2 c.loop-x.rs c.loop-x.x (length c.args.rs.now) c.loop-x.invariant.0 (search rules) c.loop-x.invariant.1
