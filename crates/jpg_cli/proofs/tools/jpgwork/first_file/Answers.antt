use Rattle.std.proofs.Common.{subst, sym}
use Rattle.jpg_spec_image.specs.Images.{Image}
use Rattle.jpg_color.specs.Encode.{image_view}
use Rattle.jpg_pnm_bmp.specs.Made.{IsRightImage}
use Rattle.jpg_desk.proofs.WorkImage.{right_image}
use Rattle.jpg_cli.proofs.Encoding.Worked.{first_done}
use Rattle.jpg_cli.proofs.tools.jpgwork.first_file.Goals as goal

pub write_encoded-requires : goal.write_encoded-requires
write_encoded-requires c = subst (λ (I : Image). IsRightImage I) (sym c.in-Some.ensures) (right_image c.args.size c.requires)

pub returns-in-Done : goal.returns-in-Done
returns-in-Done c =
    first_done c.args.size c.new.result.items (image_view c.in-Some.image) c.new-desk.result c.write_encoded.new.desk c.new.ensures c.in-Some.ensures c.new-desk.ensures.nothing.outputs c.in-Done.ensures.wrote
