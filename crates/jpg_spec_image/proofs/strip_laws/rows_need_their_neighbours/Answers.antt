use Rattle.jpg_spec_image.proofs.Strips.{window}
use Rattle.jpg_spec_image.proofs.strip_laws.rows_need_their_neighbours.Goals as goal

pub returns : goal.returns
returns c = λ s rows others j k y is agree. window s rows others j k y is.down is.high agree is.late is.ready
