use Rattle.std.proofs.Common.{[], Ok, Err, refl, sym, subst, false}
use Rattle.std.specs.Prelude.{Bool}
use Rattle.jpg_desk.specs.ImageSource.{HasFed}
use Rattle.jpg_desk.specs.Judging.{NoValueTaken}
use Rattle.jpg_desk.specs.ReadImage.{image_judging}
use Rattle.jpg_desk.specs.declared.image.ImageSink.{ImageSink}
use Rattle.jpg_desk.proofs.ImageTaken.{sink_pumped, source_fed, source_read_up_to, targa_is}
use Rattle.jpg_desk.proofs.image.read_source.Goals as goal

pub pump-requires-clause-can : goal.pump-requires-clause-can
pump-requires-clause-can g c =
    let s = g.D.Desk.state c.args.desk.now in
    let sink : ImageSink = record { source = c.new.result; to_end = false } in
    ((sink, s), [], refl, source_fed sink s (subst (λ (t : Bool). HasFed t [] c.new.result) (targa_is c.args.targa [] c.new.result c.new.ensures) c.new.ensures))

pub returns-in-Ok : goal.returns-in-Ok
returns-in-Ok g c =
    let state = g.D.Desk.state in
    let s = state c.args.desk.now in
    let now = state c.pump.new.desk in
    let sink : ImageSink = record { source = c.new.result; to_end = false } in
    let same = targa_is c.args.targa [] c.new.result c.new.ensures in
    let h = sink_pumped sink s (Ok c.in-Ok.field-0) (c.pump.new.sink, now) (c.in-Ok.ensures (sink, s) [] refl (source_fed sink s (subst (λ (t : Bool). HasFed t [] c.new.result) same c.new.ensures))) in
    record { kept = h.kept; read = source_read_up_to c.args.targa sink s c.in-Ok.field-0 (c.pump.new.sink, now) (sym same) refl h }

pub returns-in-Err : goal.returns-in-Err
returns-in-Err g c =
    let state = g.D.Desk.state in
    let s = state c.args.desk.now in
    let now = state c.pump.new.desk in
    let sink : ImageSink = record { source = c.new.result; to_end = false } in
    let same = targa_is c.args.targa [] c.new.result c.new.ensures in
    let h = sink_pumped sink s (Err c.in-Err.why) (c.pump.new.sink, now) (c.in-Err.ensures (sink, s) [] refl (source_fed sink s (subst (λ (t : Bool). HasFed t [] c.new.result) same c.new.ensures))) in
    record { kept = h.kept; read = subst (λ (t : Bool). NoValueTaken (image_judging t) s c.in-Err.why now) (sym same) h.reads }
