use Rattle.std.proofs.Common.{ap, ◌∙◌}
use Rattle.jpg_spec_image.specs.ForwardDct.{quantised_block, forward_dct}
use Rattle.jpg_dct.proofs.Zigzag.{coded_rows, are_fewer}
use Rattle.jpg_dct.proofs.forward.blocks.Divisors.block.Goals as goal

pub divided_rows-coded-requires-clause-few : goal.divided_rows-coded-requires-clause-few
divided_rows-coded-requires-clause-few c = are_fewer c.self.inside.quants c.self.inside.halves c.self.inside.factors c.self.inside.scales c.self.invariant

pub returns : goal.returns
returns c =
    c.in_zigzag.ensures
    ∙ coded_rows c.args.samples.now c.frequencies-rows.result c.divided_rows-coded.result c.self.inside.quants c.self.inside.halves c.self.inside.factors c.self.inside.scales c.self.invariant
    c.frequencies-rows.ensures.all c.frequencies-rows.ensures.at c.divided_rows-coded.ensures.at
    ∙ ap (λ q. quantised_block q (forward_dct c.args.samples.now)) c.self.view_is
