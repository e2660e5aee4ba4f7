use Rattle.std.proofs.Common.{arith}
use Rattle.jpg_crop.proofs.cropped_block.CroppedBlockView.block.Goals as goal

pub overflow_add-column : goal.overflow_add-column
overflow_add-column g c = (let h = c.args.self.now.places.column c.args.component c.args.x c.args.y c.requires in omega (arith, h))

pub overflow_add-row : goal.overflow_add-row
overflow_add-row g c = (let h = c.args.self.now.places.row c.args.component c.args.x c.args.y c.requires in omega (arith, h))

pub block-requires : goal.block-requires
block-requires g c = c.args.self.now.places.places c.args.component c.args.x c.args.y c.requires
