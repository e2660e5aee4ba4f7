use Rattle.std.proofs.Common.{refl}
use Rattle.jpg_spec.specs.Scan.{part_of}
use Rattle.jpg_coefs.specs.Sinks.{intervals_due}
use Rattle.jpg_coefs.specs.MarkSinks.{HasSlots}
use Rattle.jpg_coefs.proofs.BitSinks.{all_units}
use Rattle.jpg_coefs.proofs.MarkSinks.{begins}
use Rattle.jpg_seq.specs.ScanWritten.{AreFew, seq_counter}
use Rattle.jpg_seq.proofs.Written.{all_counted, marks_fit as unit_fits}
use Rattle.jpg_seq.proofs.count.count_seq_scan.Goals as goal

pub put_scan-counted-requires-clause-begins : goal.put_scan-counted-requires-clause-begins
put_scan-counted-requires-clause-begins g c =
    let f = g.V.BlockView.numbers c.args.view.now in
    let head = c.args.head.now in
    let blocks = g.V.BlockView.blocks c.args.view.now in
    begins seq_counter _ (intervals_due f head c.args.interval blocks) refl c.none-counts.ensures.counts
    (all_units (λ u. HasSlots (part_of head u.0) × AreFew u.1) f head c.args.interval blocks c.requires.components (λ p last is. unit_fits f head blocks last p c.requires.blocks c.requires.slots is)) (λ due fits. refl)

pub returns-clause-dc : goal.returns-clause-dc
returns-clause-dc g c =
    (all_counted (g.V.BlockView.numbers c.args.view.now) c.args.head.now c.args.interval (g.V.BlockView.blocks c.args.view.now) _ _ c.requires.sequential c.none-counts.ensures.value c.put_scan-counted.ensures.1).0

pub returns-clause-ac : goal.returns-clause-ac
returns-clause-ac g c =
    (all_counted (g.V.BlockView.numbers c.args.view.now) c.args.head.now c.args.interval (g.V.BlockView.blocks c.args.view.now) _ _ c.requires.sequential c.none-counts.ensures.value c.put_scan-counted.ensures.1).1
