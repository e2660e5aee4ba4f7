use Rattle.jpg_spec_image.proofs.RowsHeader.{shown_once}
use Rattle.jpg_spec_image.proofs.RowsImage.{late_rows}
use Rattle.jpg_spec_image.proofs.row_laws.rows_show_one_text.Goals as goal

pub returns-clause-late : goal.returns-clause-late
returns-clause-late c = late_rows

pub returns-clause-one : goal.returns-clause-one
returns-clause-one c = shown_once
