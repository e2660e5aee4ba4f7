use Rattle.jpg_color.proofs.RowsPut.{block_step}
use Rattle.jpg_color.proofs.decode.sample_rows.put_whole.Goals as goal

pub loop-y-preserved : goal.loop-y-preserved
loop-y-preserved c =
    block_step c.args.place.line c.args.place.row c.args.place.column c.loop-y.y c.args.block.now c.args.samples.now c.loop-y.samples c.put_eight.new.samples
    c.requires.across c.loop-y.invariant c.put_eight.ensures.long c.put_eight.ensures.there c.put_eight.ensures.others
