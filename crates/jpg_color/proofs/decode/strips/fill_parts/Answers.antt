use Rattle.std.proofs.Common.{rules}
use Rattle.std.proofs.lemmas.List.Edits.{map_over_more}
use Rattle.jpg_color.specs.PartState.{filled}
use Rattle.jpg_color.proofs.decode.strips.fill_parts.Goals as goal

pub loop-i-preserved : goal.loop-i-preserved
loop-i-preserved c = search (rules, map_over_more (filled c.args.coefs.now c.args.whole c.args.pushed), c.fill.ensures, c.index-parts-i.is)
