use Rattle.std.proofs.Common.{rules, ◌≡◌, length, ◌∙◌}
use Rattle.jpg_sample.proofs.Sums.{copy_is}
use Rattle.jpg_sample.proofs.narrow.copies.Goals as goal

pub returns : goal.returns
returns c =
    let long : length c.args.row.now ≡ c.args.width = search rules in
    c.copy_from_slice.ensures.after ∙ copy_is c.args.row.now c.args.width (length c.args.out.now) c.requires.there long
