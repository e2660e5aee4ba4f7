use Rattle.std.proofs.Common.{◌≡◌, true}
use Rattle.jpg_seq.specs.ScanWritten.{run_bits}
use Rattle.jpg_huff.specs.BitOut.{Puts}
use Rattle.jpg_huff.proofs.InParts.{DoneButFor}
use Rattle.jpg_seq.proofs.write.put_any_run.Given as goal

abbrev pub invariant-loop-left : goal.invariant-loop-left
invariant-loop-left g l =
    let state = g.D.Desk.state in
    record {
      created : (state l.desk).output_created ≡ true;
      part : DoneButFor Puts (state l.fn.desk) l.fn.out (run_bits l.ac l.next.run l.next.value) (run_bits l.ac l.left l.next.value) l.out (state l.desk);
    }

abbrev pub decreases-loop-left : goal.decreases-loop-left
decreases-loop-left g l = l.left
