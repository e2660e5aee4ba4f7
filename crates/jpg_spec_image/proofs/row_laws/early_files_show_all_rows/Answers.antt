use Rattle.jpg_spec_image.proofs.EarlyImage.{early_rows_text, early_text_in}
use Rattle.jpg_spec_image.proofs.row_laws.early_files_show_all_rows.Goals as goal

pub returns-clause-rows : goal.returns-clause-rows
returns-clause-rows c = early_rows_text

pub returns-clause-image : goal.returns-clause-image
returns-clause-image c = early_text_in
