use Rattle.jpg_base.proofs.BitsAt.{one_bit}
use Rattle.jpg_base.proofs.store.BitStore.bit.Goals as goal

pub returns : goal.returns
returns c = one_bit c.args.self.now c.args.i c.part.result c.requires c.part.ensures.value c.part.ensures.fits
