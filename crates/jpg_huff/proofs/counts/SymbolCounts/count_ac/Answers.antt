use Rattle.std.proofs.Common.{refl}
use Rattle.jpg_huff.proofs.Marks.{others_same, one_more}
use Rattle.jpg_huff.proofs.counts.SymbolCounts.count_ac.Goals as goal

pub returns : goal.returns
returns c = record {
  counts = record { ac = c.count.ensures.rows; dc = c.requires.counts.dc };
  ac = one_more 1 c.args.self.now.ac c.count.new.rows c.args.slot c.args.symbol c.count.ensures.counted;
  dc = others_same 0 c.args.self.now.dc 1 c.args.slot c.args.symbol c.requires.counts.dc refl;
}
