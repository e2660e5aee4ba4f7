use Rattle.jpg_seq.proofs.Machines.{filled_more}
use Rattle.jpg_seq.proofs.reader.put_coders.Goals as goal

pub loop-part-preserved : goal.loop-part-preserved
loop-part-preserved c =
    let l = c.loop-part in let o = c.put_coder.ensures in
    filled_more c.args.tables.now c.args.parts.now l.part-index l.coders c.put_coder.new.place o.0 l.invariant (c.requires.small l.part-index (record { component = 0; dc = 0; ac = 0 }) c.loop-part-test.true) o.1 o.2
