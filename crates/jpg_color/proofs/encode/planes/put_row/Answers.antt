use Rattle.std.proofs.Common.{rules, ◌≡◌, ◌+◌, ◌-◌, ◌*◌, length, arith}
use borrow.Rule.Slice.PartMut.{mid_of}
use Rattle.jpg_color.proofs.CutBlocks.{row_stored, stored_long}
use Rattle.jpg_color.proofs.encode.planes.put_row.Goals as goal

pub returns-clause-long : goal.returns-clause-long
returns-clause-long c =
    let v = c.args.v in
    let n = 8 * v + 8 - 8 * v in
    let samples = c.args.samples.now in
    let long : length samples ≡ 64 = search rules in
    let mid : length (mid_of (8 * v) n samples) ≡ 8 = search rules in
    stored_long v n samples c.args.row.now _ c.requires.0 (omega arith) long mid

pub returns-clause-value : goal.returns-clause-value
returns-clause-value c =
    let v = c.args.v in
    let n = 8 * v + 8 - 8 * v in
    let samples = c.args.samples.now in
    let long : length samples ≡ 64 = search rules in
    let mid : length (mid_of (8 * v) n samples) ≡ 8 = search rules in
    row_stored v n samples c.args.row.now _ c.requires.0 long c.requires.1 mid
