use Rattle.std.specs.Prelude.{◌≡◌, ◌-◌, true, [], drop, length}
use Rattle.jpg_huff.specs.BitOut.{Puts, holding}
use Rattle.jpg_huff.proofs.InParts.{DoneButFor}
use Rattle.jpg_prog_write.proofs.put.put_bits.Given as goal

abbrev pub invariant-loop-from : goal.invariant-loop-from
invariant-loop-from g l =
    let state = g.D.Desk.state in
    record {
      created : (state l.desk).output_created ≡ true;
      none : l.out.bits ≡ [];
      part : DoneButFor Puts (state l.fn.desk) (holding l.fn.out l.fn.held) l.bits (drop l.from l.bits) (holding l.out l.after) (state l.desk);
    }

abbrev pub decreases-loop-from : goal.decreases-loop-from
decreases-loop-from g l = length l.bits - l.from
