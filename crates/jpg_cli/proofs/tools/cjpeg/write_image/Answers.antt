use Rattle.std.proofs.Common.{sym, subst}
use Rattle.jpg_spec_words.specs.declared.answers.Why.{Why}
use Rattle.jpg_cli.specs.Tools.ImageWritten.{AfterEncoding}
use Rattle.jpg_cli.proofs.Encoding.ImageEncoded.{picture_written}
use Rattle.jpg_cli.proofs.tools.cjpeg.write_image.Goals as goal

pub returns-in-Ok-clause-wrote : goal.returns-in-Ok-clause-wrote
returns-in-Ok-clause-wrote g c = λ e I asked is.
    let state = g.D.Desk.state in
    picture_written asked is c.in-Ok.picture (state c.args.desk.now) (state c.write_picture.new.desk) c.write_picture.result c.in-Ok.ensures.means c.write_picture.ensures.wrote

pub returns-clause-wrote : goal.returns-clause-wrote
returns-clause-wrote g c = λ e I asked is.
    let state = g.D.Desk.state in
    subst (λ (w : Why). AfterEncoding e I c.args.words.now.files.output (state c.args.desk.now) w (state c.write_blocks.new.desk)) (sym c.why_wrote.ensures)
    (c.write_blocks.ensures.wrote e I asked is)
