use Rattle.std.proofs.Common.{rules, ◌≡◌, ◌∙◌, length}
use Rattle.jpg_dct.proofs.Swizzled.{swizzled_slice}
use Rattle.jpg_dct.proofs.inverse.multipliers.in_order.Goals as goal

pub returns : goal.returns
returns c =
    let l : length c.args.values.now ≡ 64 = search rules in
    c.as_array.ensures ∙ swizzled_slice c.args.values.now l c.requires
