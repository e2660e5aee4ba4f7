use Rattle.std.proofs.Common.{sym, subst}
use Rattle.std.specs.Prelude.{IfSome}
use Rattle.jpg_desk.specs.ImageSource.{TellsRight}
use Rattle.jpg_desk.specs.declared.image_source.ImageSource.{ImageSource}
use Rattle.jpg_desk.proofs.SampleAnswers.{pnm_right, targa_right}
use Rattle.jpg_desk.proofs.image_source.ImageSource.gives.Goals as goal

pub returns-in-Pixels-clause-right : goal.returns-in-Pixels-clause-right
returns-in-Pixels-clause-right c = subst (λ (r : ImageSource). IfSome c.gives.result (TellsRight r)) (sym c.in-Pixels.is) (pnm_right c.in-Pixels.reader c.gives.result c.gives.ensures.right)

pub returns-in-Targa-clause-right : goal.returns-in-Targa-clause-right
returns-in-Targa-clause-right c = subst (λ (r : ImageSource). IfSome c.gives-in-Targa.result (TellsRight r)) (sym c.in-Targa.is) (targa_right c.in-Targa.reader c.gives-in-Targa.result c.gives-in-Targa.ensures.some)
