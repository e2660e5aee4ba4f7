use Rattle.std.proofs.Common.{◌≡◌, false, take}
use Rattle.std.specs.Prelude.{nat_lt}
use Rattle.jpg_spec.specs.Lists.{any_of}
use Rattle.jpg_fit.proofs.table.is_any_sent.Given as goal

abbrev pub invariant-loop-count : goal.invariant-loop-count
invariant-loop-count l = any_of (λ count. nat_lt 0 count) (take l.count-index l.counts) ≡ false
