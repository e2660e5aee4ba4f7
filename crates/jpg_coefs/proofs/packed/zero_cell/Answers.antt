use Rattle.std.proofs.Common.{refl}
use Rattle.jpg_coefs.proofs.PackedCells.{zero_at}
use Rattle.jpg_coefs.proofs.packed.zero_cell.Goals as goal

pub returns : goal.returns
returns c = record { first = refl; room = refl; low = zero_at 64 }
