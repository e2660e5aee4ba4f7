use Rattle.std.specs.Prelude.{◌≡◌, drop}
use Rattle.jpg_coefs.proofs.Places.{found_part}
use Rattle.jpg_coefs.proofs.intervals.part_of.Given as goal

abbrev pub invariant-loop-part : goal.invariant-loop-part
invariant-loop-part l = found_part (drop l.part-index l.part-items) l.component ≡ found_part l.part-items l.component
