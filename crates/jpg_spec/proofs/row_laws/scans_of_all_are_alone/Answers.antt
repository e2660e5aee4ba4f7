use Rattle.jpg_spec.proofs.McuRows.RowsLater.{repeated_scan}
use Rattle.jpg_spec.proofs.row_laws.scans_of_all_are_alone.Goals as goal

pub returns : goal.returns
returns c = repeated_scan
