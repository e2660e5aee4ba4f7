use Rattle.std.proofs.Common.{rules}
use Rattle.std.proofs.lemmas.List.Edits.{map_over_more}
use Rattle.jpg_color.specs.PartState.{drawn}
use Rattle.jpg_color.proofs.decode.strips.draw_parts.Goals as goal

pub loop-i-preserved : goal.loop-i-preserved
loop-i-preserved c = search (rules, map_over_more (drawn c.args.y c.args.pushed))
