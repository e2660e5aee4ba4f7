use Rattle.jpg_spec_image.proofs.RowsAlike.{so_far_alike}
use Rattle.jpg_spec_image.proofs.row_laws.pictures_so_far_are_shown_as_their_files.Goals as goal

pub returns : goal.returns
returns c = so_far_alike
