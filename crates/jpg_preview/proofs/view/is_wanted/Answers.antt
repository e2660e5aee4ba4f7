use Rattle.std.proofs.Common.{arith}
use Rattle.jpg_preview.proofs.FedSteps.{is_wanted, not_begun, not_enough}
use Rattle.jpg_preview.proofs.view.is_wanted.Goals as goal

pub returns-then-scans_ended-scans-clause-ends : goal.returns-then-scans_ended-scans-clause-ends
returns-then-scans_ended-scans-clause-ends c = λ e.
    let low = c.if-scans_ended-scans.true in
    is_wanted c.args.scans c.scans_ended.result c.args.reader.now c.begun.result e (omega (arith, low)) c.scans_ended.ensures c.begun.ensures.read

pub returns-then-scans_ended-scans-clause-goes : goal.returns-then-scans_ended-scans-clause-goes
returns-then-scans_ended-scans-clause-goes c = λ e. not_begun c.args.scans c.args.reader.now c.begun.result e c.begun.ensures.read

pub returns-else-scans_ended-scans-clause-goes : goal.returns-else-scans_ended-scans-clause-goes
returns-else-scans_ended-scans-clause-goes c = λ e.
    let less = c.if-scans_ended-scans.false in
    not_enough c.args.scans c.scans_ended.result c.args.reader.now (omega (arith, less)) c.scans_ended.ensures
