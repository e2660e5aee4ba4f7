use Rattle.jpg_spec.proofs.Bits.Sound.{sound}
use Rattle.jpg_spec.proofs.laws.codings_are_sound.Goals as goal

pub returns : goal.returns
returns c = λ f tables head h. sound f tables head h
