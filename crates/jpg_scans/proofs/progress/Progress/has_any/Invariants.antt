use Rattle.std.specs.Prelude.{◌≡◌, map, drop}
use Rattle.jpg_spec.specs.Lists.{any_of}
use Rattle.jpg_spec.specs.Segments.{head_components}
use Rattle.jpg_scans.specs.Progress.{begun_at}
use Rattle.jpg_scans.proofs.progress.Progress.has_any.Given as goal

abbrev pub invariant-loop-part : goal.invariant-loop-part
invariant-loop-part l = any_of (begun_at l.self) (head_components l.head) ≡ any_of (begun_at l.self) (map (λ p. p.component) (drop l.part-index l.head.parts))
