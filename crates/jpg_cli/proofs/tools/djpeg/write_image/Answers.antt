use Rattle.std.proofs.Common.{subst, sym}
use Rattle.jpg_spec_words.specs.declared.answers.Why.{Why}
use Rattle.jpg_color.specs.DecodeRows.{picture_text}
use Rattle.jpg_cli.specs.Tools.Showing.{AfterPicture}
use Rattle.jpg_cli.proofs.ByRow.ImageShown.{image_done, image_left}
use Rattle.jpg_cli.proofs.tools.djpeg.write_image.Goals as goal

pub returns-in-Ok-clause-wrote : goal.returns-in-Ok-clause-wrote
returns-in-Ok-clause-wrote g c = λ early.
    let state = g.D.Desk.state in
    let words = c.args.words.now in
    image_done (state c.args.desk.now) (state c.create.new.self) (state c.decode_rows.new.desk) words.files.output early (λ kind. picture_text kind c.args.picture.now words.gray words.smooth)
    ((goal.ImageEnd-dyn g (c.args.end.now.vtable, c.args.end.now.value)).progress c.args.end.now.value) words.kind c.requires.end c.in-Done.ensures c.in-Ok.ensures.written

pub returns-in-Err-clause-wrote : goal.returns-in-Err-clause-wrote
returns-in-Err-clause-wrote g c = λ early.
    let state = g.D.Desk.state in
    let words = c.args.words.now in
    subst (λ (w : Why). AfterPicture words c.args.picture.now early (state c.args.desk.now) w (state c.decode_rows.new.desk)) (sym c.why_of.ensures)
    (image_left (state c.args.desk.now) (state c.create.new.self) (state c.decode_rows.new.desk) words.files.output early (λ kind. picture_text kind c.args.picture.now words.gray words.smooth)
    ((goal.ImageEnd-dyn g (c.args.end.now.vtable, c.args.end.now.value)).progress c.args.end.now.value) words.kind c.in-Err.stop c.requires.end c.in-Done.ensures c.in-Err.ensures.written)
