use Rattle.jpg_color.proofs.StripParts.{one_part_more}
use Rattle.jpg_color.proofs.decode.strips.new_parts.Goals as goal

pub loop-i-preserved : goal.loop-i-preserved
loop-i-preserved c = one_part_more _ _ _ c.loop-i.parts.items c.push.new.self.items c.in_ok-part.part c.loop-i.invariant c.in_ok-part.ensures c.in-Ok-push.ensures.items
