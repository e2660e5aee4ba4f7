use Rattle.std.proofs.Common.{rules, ◌≡◌, length}
use Rattle.jpg_huff.proofs.Words.{no_ff}
use Rattle.jpg_huff.proofs.buffer.has_ff.Goals as goal

pub returns : goal.returns
returns c =
    let l : length c.args.bytes.now ≡ 8 = search rules in
    no_ff c.args.bytes.now l
