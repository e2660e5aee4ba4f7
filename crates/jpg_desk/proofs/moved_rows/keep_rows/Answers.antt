use Rattle.jpg_desk.proofs.RowsPicture.{ends_kept, has_kept}
use Rattle.jpg_desk.proofs.moved_rows.keep_rows.Goals as goal

pub picture_of-requires : goal.picture_of-requires
picture_of-requires g c = (let r = c.requires.began in has_kept (c.in-Ok-read_rows.ensures r.0 r.1.0 r.1.1).1)

pub returns-in-Err : goal.returns-in-Err
returns-in-Err g c = λ choice. c.in-Err.ensures choice.copying

pub returns-in-Ok-read_rows : goal.returns-in-Ok-read_rows
returns-in-Ok-read_rows g c = λ choice start begun. (let e = c.in-Ok-read_rows.ensures choice.copying start begun in (e.0, ends_kept choice e.1 c.picture_of.ensures))
