use Rattle.std.specs.Prelude.{◌≡◌, ◌*◌, take, length}
use Rattle.jpg_spec_image.specs.Upsampling.{repeat_row}
use Rattle.jpg_sample.proofs.repeat.twice.Given as goal

abbrev pub invariant-loop-i : goal.invariant-loop-i
invariant-loop-i l = (length l.out ≡ 2 * length l.row) × (take (2 * l.i) l.out ≡ repeat_row 2 (take l.i l.row))
