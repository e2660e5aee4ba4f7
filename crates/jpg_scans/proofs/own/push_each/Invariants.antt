use Rattle.std.specs.Prelude.{◌≡◌, ◌+◌, ◌++◌, length, map}
use Rattle.jpg_spec.specs.Lists.{below}
use Rattle.jpg_spec_write.specs.ScriptFaults.{of_one}
use Rattle.jpg_scans.proofs.own.push_each.Given as goal

abbrev pub invariant-loop-i : goal.invariant-loop-i
invariant-loop-i l =
    (l.entries.items ≡ l.fn.entries.items ++ map (λ i. of_one i l.band.ss l.band.se l.band.ah l.band.al) (below l.i))
    × (length l.entries.items ≡ length l.fn.entries.items + l.i)
