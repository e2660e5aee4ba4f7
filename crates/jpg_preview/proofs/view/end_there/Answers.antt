use Rattle.jpg_preview.proofs.FedSteps.{ends_early, ends_stopped}
use Rattle.jpg_preview.proofs.view.end_there.Goals as goal

pub returns-in-Early-clause-ends : goal.returns-in-Early-clause-ends
returns-in-Early-clause-ends c = ends_early c.args.reader.now c.end.new.self c.args.used c.in-Early.field-0 c.end.result c.in-Early.is c.end.ensures.answered

pub returns-in-Stop-clause-ends : goal.returns-in-Stop-clause-ends
returns-in-Stop-clause-ends c = ends_stopped c.args.reader.now c.end.new.self c.args.used c.end.result c.in-Stop.stop c.in-Stop.is c.end.ensures.limits c.end.ensures.answered
