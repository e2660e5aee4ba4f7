use Rattle.std.proofs.Common.{sym, subst}
use Rattle.std.specs.Prelude.{IfNone, IfSome}
use Rattle.jpg_desk.specs.ImageSource.{TellsNoSamples, TellsSamples}
use Rattle.jpg_desk.specs.declared.image_source.ImageSource.{ImageSource}
use Rattle.jpg_desk.proofs.ImageAnswers.{pixels_tell, pixels_tell_none}
use Rattle.jpg_desk.proofs.image_source.ImageSource.plain.Goals as goal

pub returns-in-Pixels-clause-some : goal.returns-in-Pixels-clause-some
returns-in-Pixels-clause-some c = subst (λ (r : ImageSource). IfSome c.plain.result (TellsSamples r)) (sym c.in-Pixels.is) (pixels_tell c.in-Pixels.reader c.plain.result c.plain.ensures.some)

pub returns-in-Pixels-clause-none : goal.returns-in-Pixels-clause-none
returns-in-Pixels-clause-none c = subst (λ (r : ImageSource). IfNone c.plain.result (TellsNoSamples r)) (sym c.in-Pixels.is) (pixels_tell_none c.in-Pixels.reader c.plain.result c.plain.ensures.none)
