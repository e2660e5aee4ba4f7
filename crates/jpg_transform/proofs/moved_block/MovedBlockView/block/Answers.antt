use Rattle.std.proofs.Common.{arith}
use Rattle.std.specs.Prelude.{slice_index}
use Rattle.jpg_spec_move.specs.Transforms.{opposite}
use Rattle.jpg_transform.proofs.Viewed.{real_at, stays}
use Rattle.jpg_transform.proofs.moved_block.MovedBlockView.block.Goals as goal

pub source-requires : goal.source-requires
source-requires c =
    let m = c.args.self.now in
    let i = c.args.component in
    let columns = slice_index m.columns i in
    let rows = slice_index m.rows i in
    real_at m.picture.now.frame i (opposite columns c.args.x) (opposite rows c.args.y) c.args.x c.args.y (stays columns c.args.x (omega (arith, c.if-x-self.false))) (stays rows c.args.y (omega (arith, c.if-y-self.false)))
    ((m.reaches.places i c.args.x c.args.y c.requires).plain c.if-self.false)
