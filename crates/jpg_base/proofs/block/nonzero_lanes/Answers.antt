use Rattle.std.proofs.Common.{rules, ◌≡◌, length}
use Rattle.jpg_base.proofs.Nonzero.{nonzero_slice}
use Rattle.jpg_base.proofs.block.nonzero_lanes.Goals as goal

pub returns : goal.returns
returns c =
    let l : length c.args.values.now ≡ 64 = search rules in
    nonzero_slice c.args.values.now l c.all_fit.ensures
