use Rattle.std.proofs.Common.{rules}
use Rattle.jpg_color.proofs.Drawn.{told_of_head}
use Rattle.jpg_color.proofs.decode.strip_image.StripImage.new.Goals as goal

pub invariant_of-result : goal.invariant_of-result
invariant_of-result c =
    (told_of_head c.args.head.now c.args.gray c.args.smooth c.in_ok-strips.strips c.info_of.result c.requires.head c.requires.admitted c.in_ok-strips.ensures c.info_of.ensures, search rules)
