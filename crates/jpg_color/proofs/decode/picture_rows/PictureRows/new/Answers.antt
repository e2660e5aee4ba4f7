use Rattle.jpg_color.proofs.Looking.{first_rows, head_admitted}
use Rattle.jpg_color.proofs.decode.picture_rows.PictureRows.new.Goals as goal

pub new-requires-clause-admitted : goal.new-requires-clause-admitted
new-requires-clause-admitted c = head_admitted c.args.picture.now c.of-head.result c.args.gray c.args.smooth c.of-head.ensures.frame c.of-head.ensures.colour c.requires

pub invariant_of-result : goal.invariant_of-result
invariant_of-result c =
    first_rows c.args.picture.now c.of-head.result c.args.gray c.args.smooth c.in_ok-strips.strips c.of-head.ensures.frame c.in_ok-strips.ensures
