use Rattle.std.proofs.Common.{subst, sym}
use Rattle.jpg_spec_words.specs.declared.answers.Why.{Why}
use Rattle.jpg_cli.specs.Tools.Showing.{Shown}
use Rattle.jpg_cli.proofs.ByRow.RowsEnd.{rows_unwritten}
use Rattle.jpg_cli.proofs.ByRow.RowsFinished.{all_told, all_written, last_stopped, rows_finished, written_ok}
use Rattle.jpg_cli.proofs.tools.djpeg_rows.end_piece.Goals as goal

pub returns-in-Err-clause-drawn : goal.returns-in-Err-clause-drawn
returns-in-Err-clause-drawn g c = λ s run m k.
    subst (λ (w : Why). Shown s run.old w (g.D.Desk.state c.flush.new.desk)) (sym c.why_of.ensures) (rows_unwritten c.in-Err.ensures.sent k)

pub finish-requires-clause-whole : goal.finish-requires-clause-whole
finish-requires-clause-whole g c =
    let so = c.in_default.ensures in
    all_told (written_ok c.in-Ok.is c.in-Done.is c.requires.last so.stays so.out so.sent c.requires.draws.showing).1

pub finish-requires-clause-end : goal.finish-requires-clause-end
finish-requires-clause-end g c =
    let so = c.in_default.ensures in
    (written_ok c.in-Ok.is c.in-Done.is c.requires.last so.stays so.out so.sent c.requires.draws.showing).1.drawing.end

pub finish-requires-clause-created : goal.finish-requires-clause-created
finish-requires-clause-created g c =
    let so = c.in_default.ensures in
    (written_ok c.in-Ok.is c.in-Done.is c.requires.last so.stays so.out so.sent c.requires.draws.showing).1.desk.created

pub returns-in-More-clause-drawn : goal.returns-in-More-clause-drawn
returns-in-More-clause-drawn g c = λ s run m k.
    let so = c.in_default.ensures in
    written_ok c.in-Ok.is c.in-More.is c.requires.last so.stays so.out so.sent k

pub returns-in-Ok-finish-clause-drawn : goal.returns-in-Ok-finish-clause-drawn
returns-in-Ok-finish-clause-drawn g c = λ s run m k.
    let so = c.in_default.ensures in
    rows_finished c.in-Ok-finish.ensures (written_ok c.in-Ok.is c.in-Done.is c.requires.last so.stays so.out so.sent k).1

pub returns-in-Err-finish-clause-drawn : goal.returns-in-Err-finish-clause-drawn
returns-in-Err-finish-clause-drawn g c = λ s run m k.
    let so = c.in_default.ensures in
    subst (λ (w : Why). Shown s run.old w (g.D.Desk.state c.finish.new.desk)) (sym c.why_of-in-Err-finish.ensures)
    (rows_finished c.in-Err-finish.ensures (written_ok c.in-Ok.is c.in-Done.is c.requires.last so.stays so.out so.sent k).1)

pub returns-in-Err-answer-clause-drawn : goal.returns-in-Err-answer-clause-drawn
returns-in-Err-answer-clause-drawn g c = λ s run m k.
    let so = c.in_default.ensures in
    subst (λ (w : Why). Shown s run.old w (g.D.Desk.state c.flush.new.desk)) (sym c.why_stopped.ensures)
    (last_stopped s run _ c.in-Err-answer.stop (all_written c.in-Err-answer.is c.requires.last so.stays so.out so.sent k))
