use Rattle.std.proofs.Common.{rules}
use Rattle.std.proofs.lemmas.List.Edits.{map_over_more}
use Rattle.jpg_color.specs.PartState.{grayed_part}
use Rattle.jpg_color.proofs.decode.strips.gray_parts.Goals as goal

pub loop-i-preserved : goal.loop-i-preserved
loop-i-preserved c = search (rules, map_over_more (grayed_part c.args.pushed), c.fill_gray.ensures, c.index-parts-i.is)
