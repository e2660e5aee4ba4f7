use Rattle.std.proofs.Common.{sym, subst}
use Rattle.jpg_desk.specs.ImageSource.{EndsImage}
use Rattle.jpg_desk.specs.declared.image_source.ImageSource.{ImageSource}
use Rattle.jpg_desk.specs.declared.image_source.ImageSource.TheVariants as source
use Rattle.jpg_desk.proofs.ImageAnswers.{pixels_end, targa_ends}
use Rattle.jpg_desk.proofs.image_source.ImageSource.end.Goals as goal

pub returns-in-Pixels : goal.returns-in-Pixels
returns-in-Pixels c =
    subst (λ (had : ImageSource). EndsImage had c.end_pixels.result (source.Pixels c.end_pixels.new.reader)) (sym c.in-Pixels.is)
    (pixels_end c.in-Pixels.reader c.end_pixels.new.reader c.end_pixels.result c.end_pixels.ensures)

pub returns-in-Targa : goal.returns-in-Targa
returns-in-Targa c =
    subst (λ (had : ImageSource). EndsImage had c.end_targa.result (source.Targa c.end_targa.new.reader)) (sym c.in-Targa.is)
    (targa_ends c.in-Targa.reader c.end_targa.new.reader c.end_targa.result c.end_targa.ensures)
