use Rattle.std.specs.Prelude.{◌≡◌, ◌*◌, take, length}
use Rattle.jpg_spec_image.specs.RedGreenBlue.{rgb_row}
use Rattle.jpg_color.proofs.decode.rgb.rgb_row.Given as goal

abbrev pub invariant-loop-i : goal.invariant-loop-i
invariant-loop-i l = (length l.out ≡ 3 * length l.ys) × (take (3 * l.i) l.out ≡ rgb_row (take l.i l.ys) (take l.i l.cbs) (take l.i l.crs))
