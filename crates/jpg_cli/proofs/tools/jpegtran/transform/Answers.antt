use Rattle.std.proofs.Common.{true, false, sym}
use Rattle.jpg_transform.specs.Planned.{choice_view, scans_view}
use Rattle.jpg_words.specs.TransformWords.{transform_view}
use Rattle.jpg_desk.specs.Writing.{in_area}
use Rattle.jpg_cli.proofs.Outcomes.Running.{transformed_in, transformed_stopped}
use Rattle.jpg_cli.proofs.tools.jpegtran.transform.Goals as goal

pub returns-then-words-clause-transformed : goal.returns-then-words-clause-transformed
returns-then-words-clause-transformed g c =
    let state = g.D.Desk.state in
    transformed_in c.args.words.now (scans_view c.in-Ok.scans) (in_area c.args.words.now.crop (choice_view c.choice_of-choice.result)) true (state c.args.desk.now) (state c.take_scans.new.desk) (state c.turn_upright.new.desk) c.turn_upright.result
    c.choice_of-choice.ensures (sym c.if-words.true) (record { asked = c.in-Ok.ensures.after.0; kept = c.in-Ok.ensures.kept }) c.in-Ok.ensures.after.1 c.turn_upright.ensures.turned

pub returns-else-words-clause-transformed : goal.returns-else-words-clause-transformed
returns-else-words-clause-transformed g c =
    let state = g.D.Desk.state in
    transformed_in c.args.words.now (scans_view c.in-Ok.scans) (in_area c.args.words.now.crop (choice_view c.choice_of-choice.result)) false (state c.args.desk.now) (state c.take_scans.new.desk) (state c.turn.new.desk) c.turn.result
    c.choice_of-choice.ensures (sym c.if-words.false) (record { asked = c.in-Ok.ensures.after.0; kept = c.in-Ok.ensures.kept }) c.in-Ok.ensures.after.1 c.turn.ensures.turned

pub returns-in-Err-clause-transformed : goal.returns-in-Err-clause-transformed
returns-in-Err-clause-transformed g c =
    let state = g.D.Desk.state in
    transformed_stopped (transform_view c.args.words.now) (state c.args.desk.now) (state c.take_scans.new.desk) c.in-Err.why c.in-Err.ensures.after
