use Rattle.std.specs.Prelude.{drop, flat_map}
use Rattle.jpg_spec_write.specs.FileText.{quant_text, slot_in}
use Rattle.jpg_huff.specs.BitOut.{CanSend, Sends}
use Rattle.jpg_huff.proofs.InParts.{DoneButFor}
use Rattle.jpg_markers.proofs.writing.quants.write_tables.Given as goal

abbrev pub invariant-loop-table : goal.invariant-loop-table
invariant-loop-table g l =
    let state = g.D.Desk.state in
    record {
      can : CanSend (state l.desk) l.out;
      part : DoneButFor Sends (state l.fn.desk) l.fn.out (flat_map (λ t. quant_text (slot_in l.tables t) t) l.tables) (flat_map (λ t. quant_text (slot_in l.tables t) t) (drop l.table-index l.tables)) l.out (state l.desk);
    }
