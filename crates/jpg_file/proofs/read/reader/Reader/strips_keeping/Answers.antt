use Rattle.jpg_file.proofs.ByRow.RowsAnswered.{read_nothing}
use Rattle.jpg_file.proofs.read.reader.Reader.strips_keeping.Goals as goal

pub returns-clause-read : goal.returns-clause-read
returns-clause-read c = (let r = c.begin.result in read_nothing r r.by_row r.in_rows c.begin.ensures.none c.begin.ensures.read)
