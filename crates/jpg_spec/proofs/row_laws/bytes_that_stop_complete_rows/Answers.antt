use Rattle.jpg_spec.proofs.McuRows.RowsStop.{stop_completes}
use Rattle.jpg_spec.proofs.row_laws.bytes_that_stop_complete_rows.Goals as goal

pub returns : goal.returns
returns c = stop_completes
