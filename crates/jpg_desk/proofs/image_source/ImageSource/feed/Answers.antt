use Rattle.std.proofs.Common.{sym, subst}
use Rattle.jpg_desk.specs.ImageSource.{TakesImagePiece}
use Rattle.jpg_desk.specs.declared.image_source.ImageSource.{ImageSource}
use Rattle.jpg_desk.specs.declared.image_source.ImageSource.TheVariants as source
use Rattle.jpg_desk.proofs.ImageAnswers.{pixels_take, targa_takes}
use Rattle.jpg_desk.proofs.image_source.ImageSource.feed.Goals as goal

pub returns-in-Pixels : goal.returns-in-Pixels
returns-in-Pixels c =
    subst (λ (had : ImageSource). TakesImagePiece had c.args.piece.now c.feed_pixels.result (source.Pixels c.feed_pixels.new.reader)) (sym c.in-Pixels.is)
    (pixels_take c.in-Pixels.reader c.feed_pixels.new.reader c.args.piece.now c.feed_pixels.result c.feed_pixels.ensures)

pub returns-in-Targa : goal.returns-in-Targa
returns-in-Targa c =
    subst (λ (had : ImageSource). TakesImagePiece had c.args.piece.now c.feed_targa.result (source.Targa c.feed_targa.new.reader)) (sym c.in-Targa.is)
    (targa_takes c.in-Targa.reader c.feed_targa.new.reader c.args.piece.now c.feed_targa.result c.feed_targa.ensures)
