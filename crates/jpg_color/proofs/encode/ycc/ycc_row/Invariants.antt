use Rattle.jpg_color.specs.ColourRows.{HasMade}
use Rattle.jpg_color.proofs.encode.ycc.ycc_row.Given as goal

abbrev pub invariant-loop-x : goal.invariant-loop-x
invariant-loop-x l = HasMade l.pixels 0 l.x l.fn.ys l.ys × HasMade l.pixels 1 l.x l.fn.cbs l.cbs × HasMade l.pixels 2 l.x l.fn.crs l.crs
