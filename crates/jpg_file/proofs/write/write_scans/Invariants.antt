use Rattle.std.proofs.Common.{drop}
use Rattle.jpg_huff.specs.BitOut.{CanSend, Sends}
use Rattle.jpg_huff.proofs.InParts.{DoneButFor}
use Rattle.jpg_file.specs.Write.WriteScan.{scans_bytes, scans_due, so_far}
use Rattle.jpg_file.proofs.write.write_scans.Given as goal

abbrev pub invariant-loop-i : goal.invariant-loop-i
invariant-loop-i g l =
    let state = g.D.Desk.state in
    let f = g.V.BlockView.numbers l.view in
    let blocks = g.V.BlockView.blocks l.view in
    record {
      can : CanSend (state l.desk) l.out;
      part : DoneButFor Sends (state l.fn.desk) l.fn.out (scans_due l.plan f blocks) (scans_bytes l.plan f blocks (so_far l.given) (drop l.i l.plan.script)) l.out (state l.desk);
    }
