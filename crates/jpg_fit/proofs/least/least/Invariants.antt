use Rattle.std.proofs.Common.{◌≡◌, ◌<◌}
use Rattle.std.specs.Prelude.{IfSome}
use Rattle.jpg_spec_fit.specs.Fitted.{least_below}
use Rattle.jpg_fit.proofs.least.least.Given as goal

abbrev pub invariant-loop-number : goal.invariant-loop-number
invariant-loop-number l = record {
  value : l.best ≡ least_below l.counts l.number;
  within : IfSome l.best (λ a. a < 257);
}
