use Rattle.std.proofs.Common.{◌<◌, refl, sym, subst}
use Rattle.std.specs.Prelude.{flat_map}
use Rattle.jpg_spec.specs.Scan.{part_of}
use Rattle.jpg_huff.specs.Counts.{Notes}
use Rattle.jpg_coefs.specs.MarkSinks.{interval_marks, owned_marks, scan_marks}
use Rattle.jpg_coefs.specs.Sinks.{intervals_due}
use Rattle.jpg_coefs.proofs.BitSinks.{all_units}
use Rattle.jpg_coefs.proofs.MarkSinks.{begins, slots_of}
use Rattle.jpg_prog_write.specs.ScanSinks.{dc_counter}
use Rattle.jpg_prog_write.proofs.BandUnits.{bits_of_head}
use Rattle.jpg_prog_write.proofs.DcUnits.{first_all}
use Rattle.jpg_prog_write.proofs.count.count_differences.Goals as goal

pub put_scan-counted-requires-clause-begins : goal.put_scan-counted-requires-clause-begins
put_scan-counted-requires-clause-begins g c =
    let f = g.V.BlockView.numbers c.args.view.now in
    let head = c.args.head.now in
    let blocks = g.V.BlockView.blocks c.args.view.now in
    begins dc_counter _ (intervals_due f head c.args.interval blocks) (refl, record { dc = c.requires.dc; bits = bits_of_head f head c.requires.scan }, c.requires.first) c.requires.counts
    (all_units (λ u. (part_of head u.0).dc < 2) f head c.args.interval blocks c.requires.scan.components (λ p last is. (slots_of head p.component c.requires.slots).dc))
    (λ due fits. first_all (owned_marks head) head due c.requires.dc)

pub returns : goal.returns
unfolding scan_marks
returns g c =
    let f = g.V.BlockView.numbers c.args.view.now in
    let head = c.args.head.now in
    let all = intervals_due f head c.args.interval (g.V.BlockView.blocks c.args.view.now) in
    subst (λ p. Notes c.args.counts.now (flat_map (interval_marks p head) all) c.put_scan-counted.new.out) (sym c.requires.scan.progressive) c.put_scan-counted.ensures.1
