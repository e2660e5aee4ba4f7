use Rattle.jpg_huff.proofs.Tables.{apart}
use Rattle.jpg_huff.proofs.laws.tables_are_apart.Goals as goal

pub returns : goal.returns
returns c = apart
