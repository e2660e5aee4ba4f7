use Rattle.std.proofs.Common.{ap}
use Rattle.jpg_spec.specs.declared.frame.Limits.{Limits}
use Rattle.jpg_desk.proofs.rows_read.RowsFrontPieceSink.most.Goals as goal

pub returns : goal.returns
returns g c = ap (λ (l : Limits). l.input) c.standard.ensures
