use Rattle.std.proofs.Common.{sym}
use Rattle.jpg_cli.proofs.ByRow.EarlyEnding.{early_finished, ending_begins, ending_due, ending_whole, work_framed, work_has, work_stopped, work_then}
use Rattle.jpg_cli.proofs.tools.djpeg_rows.finish_early.Goals as goal

pub finish-requires-clause-whole : goal.finish-requires-clause-whole
finish-requires-clause-whole g c = ending_whole (ending_begins c.requires.early.shown) (sym c.if-is_whole.ensures)

pub returns-then-is_whole-clause-shown : goal.returns-then-is_whole-clause-shown
returns-then-is_whole-clause-shown g c = λ s run m n x. early_finished c.finish.ensures (sym c.if-is_whole.ensures) (ending_begins x)

pub row_coefs-requires : goal.row_coefs-requires
row_coefs-requires g c = work_has c.requires.early.shown

pub push-requires-clause-due : goal.push-requires-clause-due
push-requires-clause-due g c = ending_due (ending_begins c.requires.early.shown) (sym c.if-is_whole.ensures)

pub push-requires-clause-row : goal.push-requires-clause-row
push-requires-clause-row g c =
    let k = c.requires.early.shown in
    work_framed k (ending_due (ending_begins k) (sym c.if-is_whole.ensures)) c.row_coefs.ensures

pub finish_zeros-requires : goal.finish_zeros-requires
finish_zeros-requires g c =
    let w = c.requires.early in
    let due = ending_due (ending_begins w.shown) (sym c.if-is_whole.ensures) in
    record { zeros = record { asked = w.asked; run = w.run; count = w.count; ending = work_then c.in-Ok.is w.shown due c.row_coefs.ensures c.push.ensures } }

pub returns-in-Ok-clause-shown : goal.returns-in-Ok-clause-shown
returns-in-Ok-clause-shown g c = λ s run m n x.
    let due = ending_due (ending_begins x) (sym c.if-is_whole.ensures) in
    c.finish_zeros.ensures.shown s run n (work_then c.in-Ok.is x due c.row_coefs.ensures c.push.ensures)

pub returns-in-Err-clause-shown : goal.returns-in-Err-clause-shown
returns-in-Err-clause-shown g c = λ s run m n x.
    let due = ending_due (ending_begins x) (sym c.if-is_whole.ensures) in
    work_stopped x due c.row_coefs.ensures c.in-Err.ensures
