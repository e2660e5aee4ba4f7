use Rattle.jpg_file.specs.Read.PictureRead.{picture_parts}
use Rattle.jpg_desk.proofs.Upright.{parts_marked}
use Rattle.jpg_cli.proofs.tools.jpegtran.upright_of.Goals as goal

pub invariant_of-result : goal.invariant_of-result
invariant_of-result c = record { keeps = parts_marked (picture_parts c.args.picture) c.mark_upright-transform.new.kept c.mark_upright-transform.ensures.marked c.args.picture.keeps }
