use Rattle.std.proofs.Common.{refl}
use Rattle.jpg_spec.specs.Geometry.{padded_blocks}
use Rattle.jpg_desk.proofs.RowsKept.{kept_none}
use Rattle.jpg_desk.proofs.row_picture.RowPicture.new.Goals as goal

pub returns : goal.returns
returns c = λ blocks. kept_none c.args.frame.now blocks _ (padded_blocks c.args.frame.now) c.checked.ensures c.in_ok-coefs.ensures.frame c.in_ok-coefs.ensures.zero refl
