use Rattle.jpg_huff.proofs.Tables.{is_table}
use Rattle.jpg_huff.proofs.laws.tables_fit.Goals as goal

pub returns : goal.returns
returns c = is_table
