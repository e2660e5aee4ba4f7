use Rattle.std.proofs.Common.{refl}
use Rattle.jpg_desk.proofs.RowsKept.{keeps_row}
use Rattle.jpg_desk.proofs.row_picture.RowPicture.put.Goals as goal

pub returns : goal.returns
returns c = keeps_row c.args.self.now _ c.args.row.now c.put_row.ensures refl
