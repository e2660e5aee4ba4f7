use Rattle.std.proofs.Common.{refl}
use Rattle.jpg_scans.proofs.Histories.{before_all}
use Rattle.jpg_scans.proofs.progress.Progress.new.Goals as goal

pub returns : goal.returns
returns c = before_all _ c.args.frame.now c.new.result c.new.ensures refl c.is_progressive.ensures c.count.ensures.value
