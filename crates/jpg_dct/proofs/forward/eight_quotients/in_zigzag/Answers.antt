use Rattle.std.proofs.Common.{◌∙◌}
use Rattle.jpg_dct.proofs.EightQuotients.{zigzag_is}
use Rattle.jpg_dct.proofs.forward.eight_quotients.in_zigzag.Goals as goal

pub returns : goal.returns
returns c = c.as_array.ensures ∙ zigzag_is c.args.d c.requires
