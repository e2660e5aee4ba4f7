use Rattle.jpg_spec_image.proofs.RowsCompleted.{complete_all}
use Rattle.jpg_spec_image.proofs.row_laws.files_complete_all_rows.Goals as goal

pub returns : goal.returns
returns c = complete_all
