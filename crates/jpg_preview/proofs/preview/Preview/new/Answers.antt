use Rattle.std.proofs.Common.{refl}
use Rattle.jpg_preview.proofs.ViewSteps.{none_empty}
use Rattle.jpg_preview.proofs.preview.Preview.new.Goals as goal

pub returns-clause-viewed : goal.returns-clause-viewed
returns-clause-viewed c = (refl, record { read = c.new.ensures.read; none = none_empty c.new.result.limits c.args.scans })
