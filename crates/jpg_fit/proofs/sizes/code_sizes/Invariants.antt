use Rattle.std.proofs.Common.{◌≡◌, ◌≤◌, ◌-◌, ◌++◌, ◌∷◌, [], sum, All}
use Rattle.jpg_spec_fit.specs.Fitted.{alone}
use Rattle.jpg_fit.specs.Groups.{groups}
use Rattle.jpg_fit.specs.Sizes.{after_steps}
use Rattle.jpg_fit.proofs.sizes.code_sizes.Given as goal

abbrev pub invariant-loop-left : goal.invariant-loop-left
invariant-loop-left l = record {
  same : after_steps l.left (groups l.all l.members) ≡ after_steps 256 (alone (l.counts ++ 1 ∷ []));
  sizes : All (λ m. m.1 ≤ 256 - l.left) l.members;
  total : sum l.all ≡ sum (l.counts ++ 1 ∷ []);
  left : l.left ≤ 256;
}

abbrev pub decreases-loop-left : goal.decreases-loop-left
decreases-loop-left l = l.left
