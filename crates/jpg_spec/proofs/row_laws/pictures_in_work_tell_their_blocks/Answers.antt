use Rattle.jpg_spec.proofs.McuRows.RowsRead.{interval_tells, units_tell}
use Rattle.jpg_spec.proofs.row_laws.pictures_in_work_tell_their_blocks.Goals as goal

pub returns-clause-units : goal.returns-clause-units
returns-clause-units c = units_tell

pub returns-clause-interval : goal.returns-clause-interval
returns-clause-interval c = interval_tells
