use Rattle.std.proofs.Common.{sym, subst}
use Rattle.jpg_desk.specs.ImageSamples.{GivesPiece}
use Rattle.jpg_desk.specs.declared.image_samples.ImageSamples.{ImageSamples}
use Rattle.jpg_desk.specs.declared.image_samples.ImageSamples.TheVariants as given
use Rattle.jpg_desk.proofs.SampleAnswers.{pnm_gives, targa_gives}
use Rattle.jpg_desk.proofs.image_samples.ImageSamples.feed.Goals as goal

pub returns-in-Pnm : goal.returns-in-Pnm
returns-in-Pnm c =
    let f = c.feed_pnm in
    subst (λ (old : ImageSamples). GivesPiece old c.args.piece.now c.args.made.now f.result (given.Pnm f.new.samples) f.new.made) (sym c.in-Pnm.is)
    (pnm_gives c.in-Pnm.samples f.new.samples c.args.piece.now c.args.made.now f.new.made f.result f.ensures)

pub returns-in-Targa : goal.returns-in-Targa
returns-in-Targa c =
    let f = c.feed_targa in
    subst (λ (old : ImageSamples). GivesPiece old c.args.piece.now c.args.made.now f.result (given.Targa f.new.samples) f.new.made) (sym c.in-Targa.is)
    (targa_gives c.in-Targa.samples f.new.samples c.args.piece.now c.args.made.now f.new.made f.result f.ensures)
