use Rattle.std.specs.Prelude.{◌≤◌, take, All, nat_abs}
use Rattle.jpg_dct.proofs.inverse.greatest.Given as goal

abbrev pub invariant-loop-value : goal.invariant-loop-value
invariant-loop-value l = All (λ x. nat_abs x ≤ l.greatest) (take l.value-index l.values)
