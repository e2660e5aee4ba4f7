use Rattle.std.proofs.Common.{◌≡◌, ◌≤◌, ◌++◌, length, take, flat_map}
use Rattle.jpg_spec.specs.Lists.{below}
use Rattle.jpg_targa.proofs.read.work.add_copies.Given as goal

abbrev pub invariant-loop-done : goal.invariant-loop-done
invariant-loop-done l = length l.fn.pixels ≤ l.end → l.pixels ≡ take l.end (l.fn.pixels ++ flat_map (λ n. l.pixel) (below l.done))
