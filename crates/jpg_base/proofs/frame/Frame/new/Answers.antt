use Rattle.std.proofs.Common.{◌∙◌, sym}
use Rattle.jpg_base.proofs.Checked.{whole}
use Rattle.jpg_base.specs.Frame.{numbers_of}
use Rattle.jpg_base.proofs.frame.Frame.new.Goals as goal

pub invariant_of-result : goal.invariant_of-result
invariant_of-result c =
    rw c.kept.ensures
    (whole c.args.limits.now (numbers_of c.args.process c.args.precision c.args.width c.args.height c.args.components.now) c.greatest_factors-h_max.result.0 c.greatest_factors-h_max.result.1 c.requires
    (sym c.is_empty.ensures ∙ c.if-is_empty.false) (sym c.is_larger.ensures ∙ c.if-is_larger.false) (sym c.has_wrong_precision.ensures ∙ c.if-has_wrong_precision.false)
    (sym c.has_wrong_count.ensures ∙ c.if-has_wrong_count.false) (sym c.has_wrong_factors.ensures ∙ c.if-has_wrong_factors.false)
    (sym c.has_same_ids.ensures ∙ c.if-has_same_ids.false) (sym c.has_wrong_slots.ensures ∙ c.if-has_wrong_slots.false)
    (sym c.has_more_blocks.ensures ∙ c.if-has_more_blocks.false) c.greatest_factors-h_max.ensures.value.0 c.greatest_factors-h_max.ensures.value.1)
