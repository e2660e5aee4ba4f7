use Rattle.std.specs.Prelude.{filter, length}
use Rattle.jpg_spec_write.specs.FileText.{kept_text}
use Rattle.jpg_markers.specs.Passed.{is_passed}
use Rattle.jpg_huff.specs.BitOut.{CanSend, Sends}
use Rattle.jpg_huff.proofs.InParts.{DoneButFor}
use Rattle.jpg_markers.proofs.writing.markers.write_passed.Given as goal

abbrev pub invariant-loop-member : goal.invariant-loop-member
invariant-loop-member g l =
    let state = g.D.Desk.state in
    record {
      can : CanSend (state l.desk) l.out;
      part : DoneButFor Sends (state l.fn.desk) l.fn.out (kept_text (filter (is_passed l.copying l.colour) l.kept)) (kept_text (filter (is_passed l.copying l.colour) l.rest)) l.out (state l.desk);
    }

abbrev pub decreases-loop-member : goal.decreases-loop-member
decreases-loop-member g l = length l.rest
