use Rattle.jpg_spec_image.proofs.RowsText.{texts_go_on}
use Rattle.jpg_spec_image.proofs.row_laws.texts_of_rows_go_on.Goals as goal

pub returns : goal.returns
returns c = texts_go_on
