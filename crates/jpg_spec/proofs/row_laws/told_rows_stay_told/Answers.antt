use Rattle.jpg_spec.proofs.McuRows.RowsOnce.{first_told, rows_stay}
use Rattle.jpg_spec.proofs.row_laws.told_rows_stay_told.Goals as goal

pub returns-clause-more : goal.returns-clause-more
returns-clause-more c = rows_stay

pub returns-clause-fewer : goal.returns-clause-fewer
returns-clause-fewer c = first_told
