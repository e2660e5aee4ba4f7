use Rattle.std.proofs.Common.{◌≡◌, drop}
use Rattle.jpg_spec_write.specs.FileText.{tables_given, tables_text}
use Rattle.jpg_huff.specs.BitOut.{CanSend, Sends}
use Rattle.jpg_huff.proofs.InParts.{DoneButFor}
use Rattle.jpg_prog_write.specs.Written.{tables_in}
use Rattle.jpg_file.specs.Write.WriteScan.{given_by}
use Rattle.jpg_file.proofs.write.tables.write_due.Given as goal

abbrev pub invariant-loop-place : goal.invariant-loop-place
invariant-loop-place g l =
    let state = g.D.Desk.state in
    let due = tables_in l.tables in
    let left = drop l.place-index l.needed in
    record {
      can : CanSend (state l.desk) l.out;
      part : DoneButFor Sends (state l.fn.desk) l.fn.out (tables_text (given_by l.fn.given) due l.needed) (tables_text (given_by l.given) due left) l.out (state l.desk);
      given : tables_given (given_by l.given) due left ≡ tables_given (given_by l.fn.given) due l.needed;
    }
