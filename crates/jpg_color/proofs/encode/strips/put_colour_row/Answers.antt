use Rattle.std.proofs.Common.{rules, ◌≡◌, ℕ, ◌+◌, ◌-◌, ◌*◌, List, length, take, drop}
use Rattle.jpg_color.proofs.PlaneWindows.{puts_colour_row}
use Rattle.jpg_color.proofs.encode.strips.put_colour_row.Goals as goal

-- how long row r is among rows of this width
abbrev row_length : ℕ → ℕ → List ℕ → ℕ
row_length r width rows = length (take (r * width + width - r * width) (drop (r * width) rows))

pub returns-clause-luminance : goal.returns-clause-luminance
returns-clause-luminance c =
    let long : length c.ycc_row.new.ys ≡ c.args.strip.now.info.now.width = search rules in
    puts_colour_row (row_length c.args.r c.args.strip.now.info.now.width c.args.ys.now) c.requires.kind c.ycc_row.ensures.luminance long c.image_row.ensures (search rules)

pub returns-clause-blue : goal.returns-clause-blue
returns-clause-blue c =
    let long : length c.ycc_row.new.cbs ≡ c.args.strip.now.info.now.width = search rules in
    puts_colour_row (row_length c.args.r c.args.strip.now.info.now.width c.args.ys.now) c.requires.kind c.ycc_row.ensures.blue long c.image_row.ensures (search rules)

pub returns-clause-red : goal.returns-clause-red
returns-clause-red c =
    let long : length c.ycc_row.new.crs ≡ c.args.strip.now.info.now.width = search rules in
    puts_colour_row (row_length c.args.r c.args.strip.now.info.now.width c.args.ys.now) c.requires.kind c.ycc_row.ensures.red long c.image_row.ensures (search rules)
