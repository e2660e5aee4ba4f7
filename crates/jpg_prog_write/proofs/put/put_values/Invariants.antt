use Rattle.std.specs.Prelude.{◌≡◌, ◌≤◌, ◌-◌, true, []}
use Rattle.jpg_huff.specs.BitOut.{Puts, holding}
use Rattle.jpg_huff.proofs.InParts.{DoneButFor}
use Rattle.jpg_prog_write.specs.Items.{texts}
use Rattle.jpg_prog_write.specs.Bands.{sents, ends_new, front_elements}
use Rattle.jpg_prog_write.specs.Putting.{ac_codes}
use Rattle.jpg_prog_write.proofs.put.put_values.Given as goal

abbrev pub invariant-loop-at : goal.invariant-loop-at
invariant-loop-at g l =
    let state = g.D.Desk.state in
    let codes = ac_codes l.codes in
    let b = l.fn.bands in
    record {
      from : b.at ≤ l.at;
      most : l.at ≤ b.last;
      same : l.bands ≡ record b { waiting = l.bands.waiting };
      front : ends_new (sents b.band l.at b.last b.block) ≡ true;
      waits : l.bands.waiting.items ≡ [];
      created : (state l.desk).output_created ≡ true;
      none : l.out.bits ≡ [];
      part : DoneButFor Puts (state l.fn.desk) (holding l.fn.out l.fn.held) (texts codes (front_elements b.band b.at b.last b.block)) (texts codes (front_elements b.band l.at b.last b.block)) (holding l.out l.after) (state l.desk);
    }

abbrev pub decreases-loop-at : goal.decreases-loop-at
decreases-loop-at g l = l.fn.bands.last - l.at
