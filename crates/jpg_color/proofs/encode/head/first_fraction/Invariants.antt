use Rattle.std.specs.Prelude.{◌≡◌, ◌<◌, ℕ, false}
use Rattle.jpg_color.specs.EncodeHead.{fraction_at}
use Rattle.jpg_color.proofs.encode.head.first_fraction.Given as goal

abbrev pub invariant-loop-i : goal.invariant-loop-i
invariant-loop-i l = (k : ℕ) → k < l.i → fraction_at l.components k ≡ false
