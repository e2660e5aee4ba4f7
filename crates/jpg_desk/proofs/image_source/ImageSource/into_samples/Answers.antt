use Rattle.std.proofs.Common.{sym, subst}
use Rattle.jpg_desk.specs.ImageSource.{CanGiveSamples, GivesFrom}
use Rattle.jpg_desk.specs.declared.image_samples.ImageSamples.TheVariants as given
use Rattle.jpg_desk.specs.declared.image_source.ImageSource.{ImageSource}
use Rattle.jpg_desk.proofs.SampleAnswers.{pnm_begun}
use Rattle.jpg_desk.proofs.image_source.ImageSource.into_samples.Goals as goal

pub into_samples-requires : goal.into_samples-requires
into_samples-requires c = (let r = c.requires in (r.0, subst (CanGiveSamples r.0) c.in-Pixels.is r.1))

pub returns-in-Pixels-clause-fed : goal.returns-in-Pixels-clause-fed
returns-in-Pixels-clause-fed c =
    let s = c.into_samples in
    subst (λ (r : ImageSource). GivesFrom r (given.Pnm s.result)) (sym c.in-Pixels.is) (pnm_begun c.in-Pixels.reader s.result s.ensures.fed s.ensures.info)
