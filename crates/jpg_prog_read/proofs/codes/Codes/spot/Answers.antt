use Rattle.std.proofs.Common.{List, subst, ◌∙◌}
use Rattle.jpg_spec.specs.Codes.{Code}
use Rattle.jpg_huff.specs.Look.{Spots}
use Rattle.jpg_prog_read.proofs.codes.Codes.spot.Goals as goal

pub returns : goal.returns
returns c = subst (λ (codes : List Code). Spots codes c.args.bits.now c.spot.result) (c.self.invariant ∙ c.self.view_is) c.spot.ensures
