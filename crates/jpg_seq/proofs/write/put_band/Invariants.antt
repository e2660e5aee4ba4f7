use Rattle.std.proofs.Common.{◌≡◌, ◌-◌, true, drop, []}
use Rattle.jpg_seq.specs.ScanWritten.{band_bits, spelled}
use Rattle.jpg_huff.specs.BitOut.{Puts, holding}
use Rattle.jpg_huff.proofs.InParts.{DoneButFor}
use Rattle.jpg_seq.proofs.Written.{AreLeft, left_told}
use Rattle.jpg_seq.proofs.write.put_band.Given as goal

abbrev pub invariant-loop-rest : goal.invariant-loop-rest
invariant-loop-rest g l =
    let state = g.D.Desk.state in
    record {
      created : (state l.desk).output_created ≡ true;
      part : DoneButFor Puts (state l.fn.desk) (holding l.fn.out l.fn.before) (band_bits l.codes.ac.now (drop 1 l.block)) (left_told (spelled l.codes.ac.now) (drop l.next l.block)) (holding l.out l.held) (state l.desk);
      none : l.out.bits ≡ [];
      left : AreLeft l.block l.next l.rest;
    }

abbrev pub decreases-loop-rest : goal.decreases-loop-rest
decreases-loop-rest g l = 64 - l.next
