use Rattle.std.proofs.Common.{◌≡◌, ◌∙◌, length, refl, sym, ap}
use Rattle.jpg_spec.specs.Segments.{ScanHead}
use Rattle.jpg_prog_read.proofs.NewAcReaders.{new_ready, one_part, ac_band}
use Rattle.jpg_prog_read.proofs.ac_reader.AcReader.new.Goals as goal

pub returns : goal.returns
returns c = λ i of.
    let t = c.codes_in.ensures in
    let a = ac_band c.args.frame.now c.args.head.now c.args.tables.now c.requires in
    let parts : c.deref.result.now ≡ c.args.head.now.parts = c.deref.ensures.0 ∙ ap (λ (h : ScanHead). h.parts) c.head.view_is in
    new_ready c.args.frame.now c.args.head.now c.args.tables.now _ t.0 _ c.checked.ensures c.requires c.band_of.ensures (sym parts ∙ one_part c.deref.result.now _ (ap length parts ∙ a.one)) t.1 t.2 c.new.ensures refl i of
