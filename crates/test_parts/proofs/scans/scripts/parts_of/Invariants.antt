use Rattle.std.specs.Prelude.{◌<◌, All}
use Rattle.test_parts.proofs.scans.scripts.parts_of.Given as goal

abbrev pub invariant-loop-component : goal.invariant-loop-component
invariant-loop-component l = All (λ p. p.component < 4) l.parts.items
