use Rattle.std.proofs.Common.{◌∙◌, refl, sym, ap, subst, false, All}
use Rattle.jpg_spec.specs.Scan.{part_of}
use Rattle.jpg_seq.specs.ScanWritten.{IsShort, tables_in, written_data, seq_units}
use Rattle.jpg_huff.proofs.Together.{sends_same}
use Rattle.jpg_coefs.specs.Sinks.{intervals_due}
use Rattle.jpg_coefs.proofs.BitSinks.{begins, all_units, written_text}
use Rattle.jpg_seq.specs.Reader.{HasTables}
use Rattle.jpg_seq.proofs.Written.{unit_fits}
use Rattle.jpg_seq.proofs.scan_write.write_seq_scan.Goals as goal

pub put_scan-requires-clause-begins : goal.put_scan-requires-clause-begins
put_scan-requires-clause-begins g c =
    let f = g.V.BlockView.numbers c.args.view.now in
    let head = c.args.head.now in
    let blocks = g.V.BlockView.blocks c.args.view.now in
    let all = intervals_due f head c.args.interval blocks in
    let set = c.new-encoders.result in
    let tables = subst (λ t. All (HasTables t) head.parts) (sym c.new-encoders.ensures) c.requires.scan.tables in
    begins seq_units g.D.Desk.state _ all refl c.requires.can
    (all_units (λ u. HasTables set (part_of head u.0) × IsShort u.1) f head c.args.interval blocks c.requires.scan.components (λ p last is. unit_fits f head set blocks last p c.requires.blocks tables is)) (λ due fits. refl)

pub returns : goal.returns
returns g c =
    let state = g.D.Desk.state in
    let f = g.V.BlockView.numbers c.args.view.now in
    let head = c.args.head.now in
    let blocks = g.V.BlockView.blocks c.args.view.now in
    sends_same (state c.args.desk.now) (state c.put_scan.new.desk) c.args.out.now c.put_scan.new.out _ _ c.put_scan.result
    (written_text (tables_in c.new-encoders.result) f head c.args.interval blocks false c.requires.scan.sequential ∙ ap (λ t. written_data f head t c.args.interval blocks) c.new-encoders.ensures) c.put_scan.ensures
