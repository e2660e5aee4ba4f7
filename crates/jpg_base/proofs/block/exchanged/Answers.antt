use Rattle.std.proofs.Common.{rules, ◌≡◌, ◌∙◌, length}
use Rattle.jpg_base.proofs.Swizzled.{swizzled_slice}
use Rattle.jpg_base.proofs.block.exchanged.Goals as goal

pub returns : goal.returns
returns c =
    let l : length c.args.values.now ≡ 64 = search rules in
    c.as_array.ensures ∙ swizzled_slice c.args.values.now l c.all_fit.ensures
