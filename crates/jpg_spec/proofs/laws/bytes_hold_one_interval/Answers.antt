use Rattle.jpg_spec.proofs.Bits.Sound.{packed_once}
use Rattle.jpg_spec.proofs.laws.bytes_hold_one_interval.Goals as goal

pub returns : goal.returns
returns c = λ coding units coded a b s. packed_once coding units a.told b.told a.bits b.bits coded s a.packed a.spelled b.packed b.spelled
