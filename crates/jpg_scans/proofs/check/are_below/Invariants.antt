use Rattle.std.specs.Prelude.{◌≡◌, nat_lt, drop}
use Rattle.jpg_spec.specs.Lists.{all_of}
use Rattle.jpg_scans.proofs.check.are_below.Given as goal

abbrev pub invariant-loop-i : goal.invariant-loop-i
invariant-loop-i l = all_of (λ i. nat_lt i l.count) l.components ≡ all_of (λ i. nat_lt i l.count) (drop l.i-index l.components)
