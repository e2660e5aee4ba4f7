use Rattle.jpg_spec_image.proofs.RowsImage.{image_of_all, image_so_far}
use Rattle.jpg_spec_image.proofs.row_laws.files_show_all_rows.Goals as goal

pub returns-clause-rows : goal.returns-clause-rows
returns-clause-rows c = image_of_all

pub returns-clause-image : goal.returns-clause-image
returns-clause-image c = image_so_far
