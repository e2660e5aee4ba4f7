use Rattle.jpg_spec_image.proofs.Strips.{kept_window}
use Rattle.jpg_spec_image.proofs.strip_laws.kept_rows_make_the_next.Goals as goal

pub returns : goal.returns
returns c = λ s rows j k y is. kept_window s rows j k y is.down is.high is.late is.ready
