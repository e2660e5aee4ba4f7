use Rattle.std.specs.Prelude.{◌≡◌, length, map, take}
use Rattle.jpg_scans.proofs.check.head_of.Given as goal

abbrev pub invariant-loop-i : goal.invariant-loop-i
invariant-loop-i l =
    (l.parts.items ≡ map (λ i. record { component = i; dc = 0; ac = 0 }) (take l.i-index l.entry.components))
    × (length l.parts.items ≡ l.i-index)
