use Rattle.std.proofs.Common.{None, false, sym, subst}
use Rattle.jpg_spec.specs.Meaning.{Meaning}
use Rattle.jpg_spec_words.specs.declared.answers.Why.{Why}
use Rattle.jpg_cli.specs.Tools.Turned.{Turned, turning_conversion, turning_view}
use Rattle.jpg_cli.proofs.Outcomes.Outcome.{converted_unread}
use Rattle.jpg_cli.proofs.Outcomes.Running.{turned_made}
use Rattle.jpg_cli.proofs.tools.jpegtran.turn_rows.Goals as goal

pub returns-in-Err-clause-turned : goal.returns-in-Err-clause-turned
returns-in-Err-clause-turned g c =
    let state = g.D.Desk.state in
    converted_unread Meaning (turning_conversion (turning_view c.args.files.now c.args.choice.now false None)) c.args.files.now.input (state c.args.desk.now) (state c.read_moved.new.desk) c.in-Err.why c.in-Err.ensures.read

pub write_input-requires : goal.write_input-requires
write_input-requires g c = (let told = c.in-Ok.ensures.read in (told.0, told.1))

pub returns-in-Ok-clause-turned : goal.returns-in-Ok-clause-turned
returns-in-Ok-clause-turned g c =
    let state = g.D.Desk.state in
    let found = c.in-Ok.ensures.read in
    let told = found.2 in
    let t = turning_view c.args.files.now c.args.choice.now false None in
    subst (λ (w : Why). Turned t (state c.args.desk.now) w (state c.write_input.new.desk)) (sym c.ended.ensures)
    (turned_made t told.1.0 c.in-Ok.early (state c.args.desk.now) (state c.read_moved.new.desk) (state c.write_input.new.desk) c.write_input.result
    (record { kept = c.in-Ok.ensures.kept; asked = told.0; read = told.1.2; all = told.2; left = c.write_input.ensures.left }) (c.write_input.ensures.wrote found.0 found.1 told.1.0 told.1.1))
