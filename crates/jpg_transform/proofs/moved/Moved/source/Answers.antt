use Rattle.std.proofs.Common.{◌∙◌}
use Rattle.jpg_transform.proofs.Viewed.{padded_there, seen_block}
use Rattle.jpg_transform.proofs.moved.Moved.source.Goals as goal

pub block-requires : goal.block-requires
block-requires c = padded_there c.args.self.now.picture.now c.args.component c.args.x c.args.y c.requires

pub returns : goal.returns
returns c = c.block.ensures ∙ seen_block c.args.self.now.picture.now c.args.component c.args.x c.args.y c.requires
