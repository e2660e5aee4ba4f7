use Rattle.jpg_file.proofs.ByRow.RowsAnswered.{asks_row, feeds_row}
use Rattle.jpg_file.proofs.read.reader.Reader.feed_row.Goals as goal

pub returns-clause-answered : goal.returns-clause-answered
returns-clause-answered c = feeds_row c.read.result c.requires.by_row c.read.ensures.read

pub returns-clause-memory : goal.returns-clause-memory
returns-clause-memory c = asks_row c.read.result c.requires.by_row c.read.ensures.read
