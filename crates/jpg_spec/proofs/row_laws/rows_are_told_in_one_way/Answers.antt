use Rattle.jpg_spec.proofs.McuRows.RowsOnce.{rows_once}
use Rattle.jpg_spec.proofs.row_laws.rows_are_told_in_one_way.Goals as goal

pub returns : goal.returns
returns c = rows_once
