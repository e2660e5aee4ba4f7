use Rattle.std.proofs.Common.{◌∙◌}
use Rattle.jpg_base.proofs.Equal.{pointwise-are_equal}
use Rattle.jpg_base.proofs.quant.QuantTable.is_same.Goals as goal

pub returns-clause-value : goal.returns-clause-value
returns-clause-value c = rw (← c.self.view_is, ← c.other.view_is) (c.eq.ensures ∙ pointwise-are_equal c.self.inside.values c.other.inside.values)
