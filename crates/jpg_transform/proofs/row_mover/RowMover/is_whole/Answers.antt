use Rattle.std.proofs.Common.{◌==◌, ap}
use Rattle.jpg_transform.proofs.RowsMoved.{tells_whole}
use Rattle.jpg_transform.proofs.row_mover.RowMover.is_whole.Goals as goal

pub returns : goal.returns
returns c = λ w k blocks has. tells_whole c.args.self.now has (c.left.result == 0) (ap (λ n. n == 0) c.left.ensures)
