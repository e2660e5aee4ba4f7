use Rattle.std.specs.Prelude.{◌≡◌, map, drop}
use Rattle.jpg_spec.specs.Lists.{all_of}
use Rattle.jpg_scans.specs.Progress.{sent_of}
use Rattle.jpg_scans.specs.Sent.{is_next_in}
use Rattle.jpg_scans.proofs.progress.Progress.are_next.Given as goal

abbrev pub invariant-loop-part : goal.invariant-loop-part
invariant-loop-part l =
    all_of (λ i. is_next_in (sent_of l.self i) l.head) (map (λ p. p.component) l.head.parts) ≡ all_of (λ i. is_next_in (sent_of l.self i) l.head) (map (λ p. p.component) (drop l.part-index l.head.parts))
