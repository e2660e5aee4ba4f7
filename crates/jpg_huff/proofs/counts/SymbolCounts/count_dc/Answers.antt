use Rattle.std.proofs.Common.{refl}
use Rattle.jpg_huff.proofs.Marks.{others_same, one_more}
use Rattle.jpg_huff.proofs.counts.SymbolCounts.count_dc.Goals as goal

pub returns : goal.returns
returns c = record {
  counts = record { dc = c.count.ensures.rows; ac = c.requires.counts.ac };
  dc = one_more 0 c.args.self.now.dc c.count.new.rows c.args.slot c.args.symbol c.count.ensures.counted;
  ac = others_same 1 c.args.self.now.ac 0 c.args.slot c.args.symbol c.requires.counts.ac refl;
}
