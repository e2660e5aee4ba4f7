use Rattle.std.specs.Prelude.{◌-◌}
use Rattle.jpg_color.specs.Shown.{all_rows}
use Rattle.jpg_color.proofs.Looking.{IsLooking}
use Rattle.jpg_color.proofs.decode.picture_rows.PictureRows.advance.Given as goal

abbrev pub invariant-loop-self : goal.invariant-loop-self
invariant-loop-self l = IsLooking l.initial.self-inside.strips l.initial.self-inside.coefs.now l.self-inside.strips l.self-inside.coefs.now

abbrev pub decreases-loop-self : goal.decreases-loop-self
decreases-loop-self l = all_rows l.self-inside.strips.display - l.self-inside.strips.pushed
