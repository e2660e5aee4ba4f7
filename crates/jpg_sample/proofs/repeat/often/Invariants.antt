use Rattle.std.specs.Prelude.{◌≡◌, ◌*◌, take, length}
use Rattle.jpg_spec_image.specs.Upsampling.{repeat_row}
use Rattle.jpg_sample.proofs.repeat.often.Given as goal

abbrev pub invariant-loop-i : goal.invariant-loop-i
invariant-loop-i l = (length l.out ≡ l.times * length l.row) × (take (l.times * l.i) l.out ≡ repeat_row l.times (take l.i l.row))
