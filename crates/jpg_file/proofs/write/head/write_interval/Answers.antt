use Rattle.jpg_huff.proofs.Together.{sends_nothing, sends_same}
use Rattle.jpg_file.proofs.Writing.ScansDue.{no_interval}
use Rattle.jpg_file.proofs.write.head.write_interval.Goals as goal

pub returns-then-now-last : goal.returns-then-now-last
returns-then-now-last g c =
    let s = g.D.Desk.state c.args.desk.now in
    sends_same _ _ _ _ _ _ _ (no_interval c.args.last c.args.now c.if-now-last.true) (sends_nothing s c.args.out.now c.requires.can.none)
