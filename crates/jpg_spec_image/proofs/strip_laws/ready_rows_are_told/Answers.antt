use Rattle.jpg_spec_image.proofs.Strips.{ready_told}
use Rattle.jpg_spec_image.proofs.strip_laws.ready_rows_are_told.Goals as goal

pub returns : goal.returns
returns c = λ M count smooth all m i y w. ready_told M count smooth all m i y w.covered w.shown w.some w.early
