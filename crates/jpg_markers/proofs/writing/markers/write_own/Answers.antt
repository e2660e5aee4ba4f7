use Rattle.jpg_huff.proofs.Together.{sends_same, sends_nothing}
use Rattle.jpg_markers.proofs.HeadText.{jfif_own, no_own}
use Rattle.jpg_markers.proofs.writing.markers.write_own.Goals as goal

pub returns-in-Gray : goal.returns-in-Gray
returns-in-Gray g c =
    let state = g.D.Desk.state in
    sends_same (state c.args.desk.now) (state c.write_segment.new.desk) c.args.out.now c.write_segment.new.out _ _ c.write_segment.result (jfif_own c.args.colour c.args.jfif.now c.jfif_contents.result c.in-Gray.is c.jfif_contents.ensures)
    c.write_segment.ensures

pub returns-in-Unknown : goal.returns-in-Unknown
returns-in-Unknown g c =
    let state = g.D.Desk.state in
    sends_same (state c.args.desk.now) (state c.args.desk.now) c.args.out.now c.args.out.now _ _ _ (no_own c.args.colour c.args.jfif.now c.in-Unknown.is) (sends_nothing (state c.args.desk.now) c.args.out.now c.requires.none)
