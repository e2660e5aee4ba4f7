use Rattle.jpg_file.proofs.ByRow.RowsAnswered.{asks_keeping, feeds_keeping}
use Rattle.jpg_file.proofs.read.reader.Reader.feed_keeping.Goals as goal

pub returns-clause-answered : goal.returns-clause-answered
returns-clause-answered c = feeds_keeping c.read.result c.requires.in_rows c.read.ensures.read

pub returns-clause-memory : goal.returns-clause-memory
returns-clause-memory c = asks_keeping c.read.result c.read.ensures.read
