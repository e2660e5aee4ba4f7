use Rattle.std.proofs.Common.{[], Ok, Err, ◌∙◌, refl}
use Rattle.jpg_desk.specs.ReadPicture.{Coefficients}
use Rattle.jpg_desk.proofs.PictureTaken.{picture_fed, picture_pumped, picture_taken}
use Rattle.jpg_desk.proofs.picture.take_picture.Goals as goal

pub pump-requires-clause-can : goal.pump-requires-clause-can
pump-requires-clause-can g c =
    let r = c.in_order-reader.result in
    let s = g.D.Desk.state c.args.desk.now in
    let e = c.in_order-reader.ensures in
    ((r, s), [], refl, picture_fed r s e.read (e.limits ∙ c.standard.ensures) e.plain)

pub take-requires : goal.take-requires
take-requires g c =
    let state = g.D.Desk.state in
    let e = c.in_order-reader.ensures in
    let h = picture_pumped c.in_order-reader.result (state c.args.desk.now) (Ok c.in-Ok.early) (c.pump.new.sink, state c.pump.new.desk) e.read (e.limits ∙ c.standard.ensures) e.plain c.in-Ok.ensures in
    record { done = h.reads.0.3.done; plain = (h.reads.0.3.plain).1 }

pub returns-in-Ok-clause-kept : goal.returns-in-Ok-clause-kept
returns-in-Ok-clause-kept g c =
    let state = g.D.Desk.state in
    let e = c.in_order-reader.ensures in
    (picture_pumped c.in_order-reader.result (state c.args.desk.now) (Ok c.in-Ok.early) (c.pump.new.sink, state c.pump.new.desk) e.read (e.limits ∙ c.standard.ensures) e.plain c.in-Ok.ensures).kept

pub returns-in-Ok-clause-read : goal.returns-in-Ok-clause-read
returns-in-Ok-clause-read g c =
    let state = g.D.Desk.state in
    let e = c.in_order-reader.ensures in
    let h = picture_pumped c.in_order-reader.result (state c.args.desk.now) (Ok c.in-Ok.early) (c.pump.new.sink, state c.pump.new.desk) e.read (e.limits ∙ c.standard.ensures) e.plain c.in-Ok.ensures in
    let t = h.reads.0 in
    let is = t.3 in
    picture_taken Coefficients c.args.copying (state c.args.desk.now) (state c.pump.new.desk) c.pump.new.sink c.take.result c.in-Ok.early is.limits (is.keeping ∙ e.keeping) c.take.ensures.meaning c.take.ensures.early
    (t.0, t.1, t.2, is.holds) h.reads.1

pub returns-clause-kept : goal.returns-clause-kept
returns-clause-kept g c =
    let state = g.D.Desk.state in
    let e = c.in_order-reader.ensures in
    (picture_pumped c.in_order-reader.result (state c.args.desk.now) (Err c.in-Err.why) (c.pump.new.sink, state c.pump.new.desk) e.read (e.limits ∙ c.standard.ensures) e.plain c.in-Err.ensures).kept

pub returns-clause-read : goal.returns-clause-read
returns-clause-read g c =
    let state = g.D.Desk.state in
    let e = c.in_order-reader.ensures in
    (picture_pumped c.in_order-reader.result (state c.args.desk.now) (Err c.in-Err.why) (c.pump.new.sink, state c.pump.new.desk) e.read (e.limits ∙ c.standard.ensures) e.plain c.in-Err.ensures).reads
