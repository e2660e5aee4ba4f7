use Rattle.std.proofs.Common.{Bool, Ok, Err, refl, sym, subst, true, ◌∙◌}
use Rattle.jpg_pnm_bmp.specs.Made.{image_by_parts}
use Rattle.jpg_desk.specs.ImageTaken.{HasImage}
use Rattle.jpg_desk.specs.Judging.{NoValueTaken}
use Rattle.jpg_desk.specs.ReadImage.{image_judging}
use Rattle.jpg_desk.specs.declared.image.ImageSink.{ImageSink}
use Rattle.jpg_desk.proofs.ImageFed.{fed_taken}
use Rattle.jpg_desk.proofs.ImageTaken.{goes_fed, has_image, holds_whole, sink_pumped, targa_is}
use Rattle.jpg_desk.proofs.image.read_rest.Goals as goal

pub pump_on-requires-clause-can : goal.pump_on-requires-clause-can
pump_on-requires-clause-can g c =
    let s = g.D.Desk.state c.args.desk.now in
    let sink : ImageSink = record { source = c.args.source; to_end = true } in
    let r = c.requires.fed in
    ((sink, r.1), r.2, sym (c.taken-taken.ensures ∙ fed_taken r.0 r.2 c.args.source r.3.goes.fed), goes_fed sink r.0 r.1 r.2 s r.3)

pub take-requires : goal.take-requires
take-requires g c =
    let state = g.D.Desk.state in
    let sink : ImageSink = record { source = c.args.source; to_end = true } in
    let r = c.requires.fed in
    let h = sink_pumped sink r.1 (Ok c.in-Ok.field-0) (c.pump_on.new.sink, state c.pump_on.new.desk) (c.in-Ok.ensures (sink, r.1) r.2 (sym (c.taken-taken.ensures ∙ fed_taken r.0 r.2 c.args.source r.3.goes.fed)) (goes_fed sink r.0 r.1 r.2 (state c.args.desk.now) r.3)) in
    (holds_whole sink r.1 c.in-Ok.field-0 (c.pump_on.new.sink, state c.pump_on.new.desk) refl h).3.done

pub returns-in-Ok : goal.returns-in-Ok
returns-in-Ok g c = λ targa start bytes r.
    let state = g.D.Desk.state in
    let now = state c.pump_on.new.desk in
    let sink : ImageSink = record { source = c.args.source; to_end = true } in
    let h = sink_pumped sink start (Ok c.in-Ok.field-0) (c.pump_on.new.sink, now) (c.in-Ok.ensures (sink, start) bytes (sym (c.taken-taken.ensures ∙ fed_taken targa bytes c.args.source r.goes.fed)) (goes_fed sink targa start bytes (state c.args.desk.now) r)) in
    let image = image_by_parts c.take.result.info c.take.result.samples in
    (h.kept, subst (λ (t : Bool). HasImage t start image now) (sym (targa_is targa bytes c.args.source r.goes.fed)) (has_image _ start image c.pump_on.new.sink.source now c.take.ensures (holds_whole sink start c.in-Ok.field-0 (c.pump_on.new.sink, now) refl h)))

pub returns-in-Err : goal.returns-in-Err
returns-in-Err g c = λ targa start bytes r.
    let state = g.D.Desk.state in
    let now = state c.pump_on.new.desk in
    let sink : ImageSink = record { source = c.args.source; to_end = true } in
    let h = sink_pumped sink start (Err c.in-Err.why) (c.pump_on.new.sink, now) (c.in-Err.ensures (sink, start) bytes (sym (c.taken-taken.ensures ∙ fed_taken targa bytes c.args.source r.goes.fed)) (goes_fed sink targa start bytes (state c.args.desk.now) r)) in
    (h.kept, subst (λ (t : Bool). NoValueTaken (image_judging t) start c.in-Err.why now) (sym (targa_is targa bytes c.args.source r.goes.fed)) h.reads)
