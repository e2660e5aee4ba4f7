use Rattle.jpg_targa.proofs.TargaRight.{targa_right}
use Rattle.jpg_targa.proofs.read.laws.targas_are_right.Goals as goal

pub returns : goal.returns
returns c = targa_right
