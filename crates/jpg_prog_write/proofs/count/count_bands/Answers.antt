use Rattle.std.proofs.Common.{◌<◌, refl, sym, ap, ◌∙◌, subst}
use Rattle.std.specs.Prelude.{flat_map}
use Rattle.jpg_huff.specs.Counts.{Notes}
use Rattle.jpg_coefs.specs.MarkSinks.{interval_marks, scan_marks}
use Rattle.jpg_coefs.specs.Sinks.{intervals_due}
use Rattle.jpg_coefs.proofs.BitSinks.{all_units}
use Rattle.jpg_coefs.proofs.MarkSinks.{begins}
use Rattle.jpg_prog_write.specs.Counted.{marks_of}
use Rattle.jpg_prog_write.specs.ScanSinks.{IsBandUnit, bands_left, ac_counter}
use Rattle.jpg_prog_write.proofs.BandUnits.{ac_head, unit_fits}
use Rattle.jpg_prog_write.proofs.Counting.{small_slot}
use Rattle.jpg_prog_write.proofs.Marks.{band_marks}
use Rattle.jpg_prog_write.proofs.count.count_bands.Goals as goal

pub no_bands-requires : goal.no_bands-requires
no_bands-requires g c = ac_head (g.V.BlockView.numbers c.args.view.now) c.args.head.now c.requires.scan c.requires.some

pub put_scan-counted-requires-clause-begins : goal.put_scan-counted-requires-clause-begins
put_scan-counted-requires-clause-begins g c =
    let f = g.V.BlockView.numbers c.args.view.now in
    let head = c.args.head.now in
    let blocks = g.V.BlockView.blocks c.args.view.now in
    let are = c.no_bands.ensures.bands in
    begins ac_counter _ (intervals_due f head c.args.interval blocks) (refl, are, c.first_slot.ensures, subst (λ n. n < 2) (sym c.first_slot.ensures) (small_slot head c.requires.slots)) c.requires.counts
    (all_units (IsBandUnit head) f head c.args.interval blocks c.requires.scan.components (λ p last is. unit_fits f head blocks last p c.requires.blocks are.ac.one is))
    (λ due fits. ap (λ slot. marks_of slot (bands_left c.no_bands.result due)) c.first_slot.ensures ∙ band_marks head c.no_bands.result due are c.no_bands.ensures.none fits)

pub returns : goal.returns
unfolding scan_marks
returns g c =
    let f = g.V.BlockView.numbers c.args.view.now in
    let head = c.args.head.now in
    let all = intervals_due f head c.args.interval (g.V.BlockView.blocks c.args.view.now) in
    subst (λ p. Notes c.args.counts.now (flat_map (interval_marks p head) all) c.put_scan-counted.new.out) (sym c.requires.scan.progressive) c.put_scan-counted.ensures.1
