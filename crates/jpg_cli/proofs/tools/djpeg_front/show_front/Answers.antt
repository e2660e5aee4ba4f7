use Rattle.std.proofs.Common.{subst, sym}
use Rattle.jpg_spec.specs.Meaning.{Meaning}
use Rattle.jpg_spec_words.specs.declared.answers.Why.{Why}
use Rattle.jpg_desk.specs.Judging.{done_as}
use Rattle.jpg_desk.specs.Reading.{rest_of}
use Rattle.jpg_cli.specs.Tools.FrontShown.{FrontShown, front_conversion}
use Rattle.jpg_cli.specs.Tools.Showing.{showing_view}
use Rattle.jpg_cli.proofs.Pieces.FrontShown.{front_admitted, front_drawn}
use Rattle.jpg_cli.proofs.Outcomes.Outcome.{drawn_unread}
use Rattle.jpg_cli.proofs.tools.djpeg_front.show_front.Goals as goal

pub returns-in-Err-clause-shown : goal.returns-in-Err-clause-shown
returns-in-Err-clause-shown g c =
    let state = g.D.Desk.state in
    drawn_unread Meaning (front_conversion c.args.scans (showing_view c.args.words.now)) c.args.words.now.files.input (state c.args.desk.now) (state c.read_front.new.desk) c.in-Err.why c.in-Err.ensures.read

pub write_image-requires-clause-admitted : goal.write_image-requires-clause-admitted
write_image-requires-clause-admitted g c =
    let state = g.D.Desk.state in
    let told = c.in-Ok.ensures.read in
    front_admitted c.args.scans c.args.words.now.gray told.1.0 c.in-Ok.early (rest_of (state c.read_front.new.desk).left) (told.1.2).bytes c.in-Ok.picture told.1.1 (told.1.2).is

pub returns-in-Ok-write_image-clause-shown : goal.returns-in-Ok-write_image-clause-shown
returns-in-Ok-write_image-clause-shown g c =
    let state = g.D.Desk.state in
    let told = c.in-Ok.ensures.read in
    let k = c.in-Ok-write_image.ensures in
    let s = showing_view c.args.words.now in
    subst (λ (w : Why). FrontShown c.args.scans s (state c.args.desk.now) w (state c.write_image.new.desk)) (sym c.done_as.ensures)
    (front_drawn c.args.scans s told.1.0 c.in-Ok.early (state c.args.desk.now) (state c.read_front.new.desk) (state c.write_image.new.desk)
    (record { kept = c.in-Ok.ensures.kept; asked = told.0; read = told.1.2; all = told.2; left = k.left }) c.in-Ok.picture (done_as c.in-Ok.early) told.1.1 (k.wrote c.in-Ok.early))

pub returns-clause-shown : goal.returns-clause-shown
returns-clause-shown g c =
    let state = g.D.Desk.state in
    let told = c.in-Ok.ensures.read in
    let k = c.in-Err-write_image.ensures in
    front_drawn c.args.scans (showing_view c.args.words.now) told.1.0 c.in-Ok.early (state c.args.desk.now) (state c.read_front.new.desk) (state c.write_image.new.desk)
    (record { kept = c.in-Ok.ensures.kept; asked = told.0; read = told.1.2; all = told.2; left = k.left }) c.in-Ok.picture c.in-Err-write_image.why told.1.1 (k.wrote c.in-Ok.early)
