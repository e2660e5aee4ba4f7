use Rattle.std.specs.Prelude.{◌*◌}
use Rattle.jpg_spec.specs.Geometry.{v_max}
use Rattle.jpg_color.proofs.PlaneWindows.{HasFirstRows}
use Rattle.jpg_color.proofs.encode.strips.put_rows.Given as goal

abbrev pub invariant-loop-r : goal.invariant-loop-r
invariant-loop-r l = HasFirstRows l.strip.info.now l.strip.samples.now 0 (8 * v_max l.strip.frame.now) l.r l.fn.rows l.rows
