use Rattle.std.specs.Prelude.{◌≡◌, ◌*◌, take, length}
use Rattle.jpg_spec_image.specs.RedGreenBlue.{interleaved_row}
use Rattle.jpg_color.proofs.decode.rgb.interleaved_row.Given as goal

abbrev pub invariant-loop-i : goal.invariant-loop-i
invariant-loop-i l = (length l.out ≡ 3 * length l.rs) × (take (3 * l.i) l.out ≡ interleaved_row (take l.i l.rs) (take l.i l.gs) (take l.i l.bs))
