use Rattle.std.proofs.Common.{refl, arith, ◌∙◌}
use Rattle.jpg_markers.proofs.Headers.{frame_is, number_at}
use Rattle.jpg_markers.proofs.frame.read_sof.Goals as goal

pub returns-else-parts-from : goal.returns-else-parts-from
returns-else-parts-from c = rw (c.new.ensures.value, c.as_slice.ensures.value, c.components_of-components.ensures)
    (frame_is c.args.limits.now c.args.process c.args.contents.now _ c.from.result c.from-height.result c.from-width.result c.in-len6-up.len_at_least refl (grind (arith, c.from.ensures))
    (omega (arith, c.if-parts-from.false)) (c.from-height.ensures ∙ c.read_u16.ensures ∙ number_at c.args.contents.now 1)
    (c.from-width.ensures ∙ c.read_u16-in-len6-up.ensures ∙ number_at c.args.contents.now 3))
