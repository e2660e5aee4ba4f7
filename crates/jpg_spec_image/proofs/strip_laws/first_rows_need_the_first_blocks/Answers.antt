use Rattle.jpg_spec_image.proofs.Strips.{same_rows}
use Rattle.jpg_spec_image.proofs.strip_laws.first_rows_need_the_first_blocks.Goals as goal

pub returns : goal.returns
returns c = λ M others smooth i y w. same_rows M others smooth i w.rows_of_blocks w.rows y w.same w.down w.high w.held w.ready
