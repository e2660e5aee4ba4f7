use Rattle.std.proofs.Common.{true, sym, subst, ◌∙◌}
use Rattle.jpg_spec.specs.Meaning.{Meaning}
use Rattle.jpg_spec_move.specs.Moved.{Choice}
use Rattle.jpg_spec_words.specs.declared.answers.Why.{Why}
use Rattle.jpg_file.specs.Read.PictureRead.{picture_meaning}
use Rattle.jpg_file.proofs.Headers.InForce.{kept_for_all}
use Rattle.jpg_transform.specs.Planned.{choice_view}
use Rattle.jpg_desk.specs.Writing.{WritesOwn, in_area}
use Rattle.jpg_cli.specs.Tools.Turned.{Turned, turning_conversion, turning_view}
use Rattle.jpg_cli.proofs.Outcomes.Outcome.{converted_unread}
use Rattle.jpg_cli.proofs.Outcomes.Running.{turned_made}
use Rattle.jpg_desk.proofs.Upright.{upright_made}
use Rattle.jpg_cli.proofs.tools.jpegtran.turn_upright.Goals as goal

pub returns-in-Err-clause-turned : goal.returns-in-Err-clause-turned
returns-in-Err-clause-turned g c =
    let state = g.D.Desk.state in
    converted_unread Meaning (turning_conversion (turning_view c.args.files.now c.args.choice true c.args.area.now)) c.args.files.now.input (state c.args.desk.now) (state c.read_picture.new.desk) c.in-Err.why c.in-Err.ensures.read

pub returns-in-Ok-clause-turned : goal.returns-in-Ok-clause-turned
returns-in-Ok-clause-turned g c =
    let state = g.D.Desk.state in
    let told = c.in-Ok.ensures.read in
    let choice = choice_view c.args.choice in
    let area = c.args.area.now in
    let of = c.upright_of-upright in
    let t = turning_view c.args.files.now c.args.choice true area in
    let N = picture_meaning c.in-Ok.picture in
    let own = subst (λ (k : Choice). WritesOwn (in_area area k) of.result.picture c.args.files.now.output (state c.read_picture.new.desk) c.write_moved.result (state c.write_moved.new.desk)) of.ensures.choice c.write_moved.ensures.own in
    subst (λ (w : Why). Turned t (state c.args.desk.now) w (state c.write_moved.new.desk)) (sym c.ended.ensures)
    (turned_made t told.1.0 c.in-Ok.early (state c.args.desk.now) (state c.read_picture.new.desk) (state c.write_moved.new.desk) c.write_moved.result
    (record { kept = c.in-Ok.ensures.kept; asked = told.0; read = told.1.2; all = told.2; left = c.write_moved.ensures.left })
    (upright_made (in_area area choice) N told.1.0 of.result.picture c.args.files.now.output (state c.read_picture.new.desk) (state c.write_moved.new.desk) c.write_moved.result (told.1.1 ∙ kept_for_all told.1.0) of.ensures.picture own))
