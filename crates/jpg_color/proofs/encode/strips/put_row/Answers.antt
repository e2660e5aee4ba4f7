use Rattle.std.proofs.Common.{rules, ◌≡◌, length}
use Rattle.jpg_color.proofs.PlaneWindows.{puts_row}
use Rattle.jpg_color.proofs.encode.strips.put_row.Goals as goal

pub returns : goal.returns
returns c =
    let long : length c.component_row.new.out ≡ c.args.strip.now.info.now.width = search rules in
    puts_row _ c.component_row.ensures long c.image_row-row.ensures c.requires.there
