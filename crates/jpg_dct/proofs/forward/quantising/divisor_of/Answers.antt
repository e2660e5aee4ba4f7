use Rattle.jpg_dct.proofs.Division.{divides_as}
use Rattle.jpg_dct.proofs.forward.quantising.divisor_of.Goals as goal

pub returns : goal.returns
returns c =
    divides_as c.args.q c.fewer-few.result c.near-v.result c.factor_of.result c.scale_of.result c.requires c.fewer-few.ensures.value c.near-v.ensures c.factor_of.ensures c.scale_of.ensures
