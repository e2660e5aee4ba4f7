use Rattle.jpg_targa.proofs.PiecesRead.{none_read}
use Rattle.jpg_targa.proofs.read.reader.TargaReader.new.Goals as goal

pub new-requires-2 : goal.new-requires-2
new-requires-2 c = none_read c.new.result c.new.ensures.stands c.new.ensures.before
