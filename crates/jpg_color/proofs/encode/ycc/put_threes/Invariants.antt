use Rattle.std.specs.Prelude.{◌*◌}
use Rattle.jpg_color.specs.ColourRows.{HasMade}
use Rattle.jpg_color.proofs.encode.ycc.put_threes.Given as goal

abbrev pub invariant-loop-c : goal.invariant-loop-c
invariant-loop-c l = HasMade l.pixels 0 (16 * l.c) l.fn.ys l.ys × HasMade l.pixels 1 (16 * l.c) l.fn.bs l.bs × HasMade l.pixels 2 (16 * l.c) l.fn.rs l.rs
