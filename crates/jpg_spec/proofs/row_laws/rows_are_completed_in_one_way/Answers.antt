use Rattle.jpg_spec.proofs.McuRows.RowsOnce.{completed_once, told_few}
use Rattle.jpg_spec.proofs.row_laws.rows_are_completed_in_one_way.Goals as goal

pub returns-clause-one : goal.returns-clause-one
returns-clause-one c = completed_once

pub returns-clause-most : goal.returns-clause-most
returns-clause-most c = told_few
