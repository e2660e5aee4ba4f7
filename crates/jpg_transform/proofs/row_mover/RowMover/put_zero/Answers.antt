use Rattle.std.proofs.Common.{refl}
use Rattle.jpg_transform.proofs.RowsMoved.{moved_zero, on_ok, one_zero, zero_some}
use Rattle.jpg_transform.proofs.row_mover.RowMover.put_zero.Goals as goal

pub put-requires-clause-some : goal.put-requires-clause-some
put-requires-clause-some c = zero_some c.requires.3 c.next_units-count.result c.next_units-count.ensures

pub put-requires-clause-can : goal.put-requires-clause-can
put-requires-clause-can c = one_zero c.requires.3 c.next_units-count.result c.next_units-count.ensures

pub returns : goal.returns
returns c = on_ok c.put.result (λ puts left. (λ w k blocks can. moved_zero can c.next_units-count.result c.next_units-count.ensures _ refl refl refl refl puts left)) c.put.ensures.puts c.put.ensures.left
