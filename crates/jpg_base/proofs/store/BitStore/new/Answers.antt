use Rattle.std.proofs.Common.{refl}
use Rattle.jpg_spec.specs.Bits.{bits_of}
use Rattle.jpg_base.proofs.store.BitStore.new.Goals as goal

pub returns : goal.returns
unfolding bits_of
returns c = refl
