use Rattle.std.proofs.Common.{◌≡◌, ◌<◌, All, map, length}
use Rattle.jpg_spec.specs.Lists.{all_of}
use Rattle.jpg_file.specs.Read.SegmentState.{is_same_kept}
use Rattle.jpg_file.proofs.read.scan_history.ScanHistory.are_same.Given as goal

abbrev pub invariant-loop-rest : goal.invariant-loop-rest
invariant-loop-rest l =
    (all_of (is_same_kept l.self.quants l.frame l.quants) (map (λ p. p.component) l.parts) ≡ all_of (is_same_kept l.self.quants l.frame l.quants) (map (λ p. p.component) l.rest))
    × All (λ p. p.component < length l.frame.components) l.rest

abbrev pub decreases-loop-rest : goal.decreases-loop-rest
decreases-loop-rest l = length l.rest
