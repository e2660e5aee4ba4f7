use Rattle.std.proofs.Common.{◌≡◌, refl, ap, ◌∙◌, arith, true}
use Rattle.jpg_spec.specs.Segments.{ScanHead}
use Rattle.jpg_spec_write.specs.ScanText.{element_bits}
use Rattle.jpg_huff.proofs.Together.{sends_same}
use Rattle.jpg_coefs.specs.Sinks.{intervals_due}
use Rattle.jpg_coefs.proofs.BitSinks.{begins, all_units, written_text}
use Rattle.jpg_prog_write.specs.Items.{texts}
use Rattle.jpg_prog_write.specs.Written.{codes_in, tables_in}
use Rattle.jpg_prog_write.specs.ScanSinks.{IsBandUnit, bands_left, dc_units, ac_units}
use Rattle.jpg_prog_write.proofs.DcUnits.{first_all}
use Rattle.jpg_prog_write.proofs.BandUnits.{ac_head, bits_of_head, unit_fits, band_texts}
use Rattle.jpg_prog_write.proofs.write.write_scan.Goals as goal

pub no_bands-requires : goal.no_bands-requires
no_bands-requires g c =
    let head = c.args.head.now in
    let ss = ap (λ (h : ScanHead). h.ss) c.head.view_is in
    ac_head (g.V.BlockView.numbers c.args.view.now) head c.requires.scan (omega (arith, ss, c.if-head-gt0.true))

pub put_scan-requires-clause-scan : goal.put_scan-requires-clause-scan
put_scan-requires-clause-scan g c = c.requires.scan.components

pub put_scan-requires-clause-begins : goal.put_scan-requires-clause-begins
put_scan-requires-clause-begins g c =
    let f = g.V.BlockView.numbers c.args.view.now in
    let head = c.args.head.now in
    let blocks = g.V.BlockView.blocks c.args.view.now in
    let are = c.no_bands.ensures.bands in
    begins ac_units g.D.Desk.state _ (intervals_due f head c.args.interval blocks) (refl, refl, are, c.first_slot.ensures) c.requires.can
    (all_units (IsBandUnit head) f head c.args.interval blocks c.requires.scan.components (λ p last is. unit_fits f head blocks last p c.requires.blocks are.ac.one is))
    (λ due fits. ap (λ slot. texts (codes_in c.args.tables.now 1 slot) (bands_left c.no_bands.result due)) c.first_slot.ensures ∙ band_texts c.args.tables.now head c.no_bands.result due are c.no_bands.ensures.none fits)

pub returns-then-head-gt0 : goal.returns-then-head-gt0
returns-then-head-gt0 g c =
    let state = g.D.Desk.state in
    let f = g.V.BlockView.numbers c.args.view.now in
    sends_same (state c.args.desk.now) (state c.put_scan.new.desk) c.args.out.now c.put_scan.new.out _ _ c.put_scan.result
    (written_text (tables_in c.args.tables.now) f c.args.head.now c.args.interval (g.V.BlockView.blocks c.args.view.now) true c.requires.scan.progressive) c.put_scan.ensures

pub put_scan-requires-else-head-gt0-clause-scan : goal.put_scan-requires-else-head-gt0-clause-scan
put_scan-requires-else-head-gt0-clause-scan g c = c.requires.scan.components

pub put_scan-requires-else-head-gt0-clause-begins : goal.put_scan-requires-else-head-gt0-clause-begins
put_scan-requires-else-head-gt0-clause-begins g c =
    let f = g.V.BlockView.numbers c.args.view.now in
    let head = c.args.head.now in
    let blocks = g.V.BlockView.blocks c.args.view.now in
    let ss = ap (λ (h : ScanHead). h.ss) c.head.view_is in
    let dc : head.ss ≡ 0 = omega (arith, ss, c.if-head-gt0.false) in
    begins dc_units g.D.Desk.state _ (intervals_due f head c.args.interval blocks) (refl, record { dc = dc; bits = bits_of_head f head c.requires.scan }) c.requires.can
    (all_units (λ u. Unit {0}) f head c.args.interval blocks c.requires.scan.components (λ p last is. tt)) (λ due fits. first_all (element_bits (tables_in c.args.tables.now) head) head due dc)

pub returns-else-head-gt0 : goal.returns-else-head-gt0
returns-else-head-gt0 g c =
    let state = g.D.Desk.state in
    let f = g.V.BlockView.numbers c.args.view.now in
    sends_same (state c.args.desk.now) (state c.put_scan-else-head-gt0.new.desk) c.args.out.now c.put_scan-else-head-gt0.new.out _ _ c.put_scan-else-head-gt0.result
    (written_text (tables_in c.args.tables.now) f c.args.head.now c.args.interval (g.V.BlockView.blocks c.args.view.now) true c.requires.scan.progressive) c.put_scan-else-head-gt0.ensures
