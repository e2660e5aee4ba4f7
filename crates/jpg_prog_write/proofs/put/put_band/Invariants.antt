use Rattle.std.specs.Prelude.{◌≡◌, true, [], List}
use Rattle.jpg_spec_write.specs.Sending.{Sent}
use Rattle.jpg_huff.specs.BitOut.{Puts, holding}
use Rattle.jpg_huff.proofs.InParts.{DoneButFor}
use Rattle.jpg_prog_write.specs.Items.{texts}
use Rattle.jpg_prog_write.specs.Bands.{IsReady, elements_left, steps_left}
use Rattle.jpg_prog_write.specs.Putting.{ac_codes}
use Rattle.jpg_prog_write.proofs.put.put_band.Given as goal

abbrev pub invariant-loop-held : goal.invariant-loop-held
invariant-loop-held g l =
    let state = g.D.Desk.state in
    let codes = ac_codes l.codes in
    record {
      created : (state l.desk).output_created ≡ true;
      ready : IsReady l.bands;
      band : l.bands.band ≡ l.fn.bands.band;
      part : (later : List (List Sent)) → DoneButFor Puts (state l.fn.desk) l.fn.out (texts codes (elements_left l.fn.bands later)) (texts codes (elements_left l.bands later)) (holding l.out l.held) (state l.desk);
      none : l.out.bits ≡ [];
    }

abbrev pub decreases-loop-held : goal.decreases-loop-held
decreases-loop-held g l = steps_left l.bands
