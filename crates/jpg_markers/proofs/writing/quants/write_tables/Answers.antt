use Rattle.std.proofs.Common.{List, ℕ, ◌++◌, ◌+◌, ap, sym, ◌∙◌, drop, refl}
use Rattle.std.specs.Prelude.{flat_map}
use Rattle.std.proofs.lemmas.Result.{err_from_is_err_and}
use Rattle.jpg_spec.specs.Segments.{QuantTable}
use Rattle.jpg_spec_write.specs.FileText.{quant_text, slot_in}
use Rattle.jpg_huff.specs.BitOut.{Sends}
use Rattle.jpg_huff.proofs.InParts.{of_bytes, part_start, part_then, part_fault}
use Rattle.jpg_huff.proofs.Together.{can_after, sends_nothing}
use Rattle.jpg_markers.proofs.HeadText.{tables_step}
use Rattle.jpg_markers.proofs.writing.quants.write_tables.Goals as goal

pub loop-table-init : goal.loop-table-init
loop-table-init g c =
    let f : QuantTable → List ℕ = λ t. quant_text (slot_in c.args.tables.now t) t in
    let s = g.D.Desk.state c.args.desk.now in
    record { can = c.requires.can; part = part_start Sends s c.args.out.now (flat_map f c.args.tables.now) (flat_map f c.args.tables.now) (sends_nothing s c.args.out.now c.requires.can.none) refl }

pub loop-table-preserved : goal.loop-table-preserved
loop-table-preserved g c =
    let state = g.D.Desk.state in
    let tables = c.args.tables.now in
    let i = c.loop-table.table-index in
    let t = c.table-item.result in
    let f : QuantTable → List ℕ = λ t. quant_text (slot_in tables t) t in
    let step = tables_step f tables i t c.loop-table-test.true c.table-item.is ∙ ap (λ n. quant_text n t ++ flat_map f (drop (i + 1) tables)) (sym c.slot_of.ensures.value) in
    record {
      can = can_after (state c.loop-table.desk) (state c.write_table.new.desk) c.loop-table.out c.write_table.new.out (quant_text c.slot_of.result t) c.loop-table.invariant.can c.in_ok-write_table.ensures;
      part = part_then Sends of_bytes (state c.args.desk.now) (state c.loop-table.desk) (state c.write_table.new.desk) c.args.out.now c.loop-table.out c.write_table.new.out (flat_map f tables) (flat_map f (drop i tables))
          (quant_text c.slot_of.result t) (flat_map f (drop (i + 1) tables)) step c.loop-table.invariant.part c.in_ok-write_table.ensures;
    }

pub returns-in_err-write_table : goal.returns-in_err-write_table
returns-in_err-write_table g c =
    let state = g.D.Desk.state in
    let tables = c.args.tables.now in
    let i = c.loop-table.table-index in
    let t = c.table-item.result in
    let f : QuantTable → List ℕ = λ t. quant_text (slot_in tables t) t in
    let step = tables_step f tables i t c.loop-table-test.true c.table-item.is ∙ ap (λ n. quant_text n t ++ flat_map f (drop (i + 1) tables)) (sym c.slot_of.ensures.value) in
    let back = err_from_is_err_and c.from_residual.result c.from_residual.ensures.1 in
    rw (back.1, back.2) (part_fault Sends of_bytes (state c.args.desk.now) (state c.loop-table.desk) (state c.write_table.new.desk) c.args.out.now c.loop-table.out c.write_table.new.out (flat_map f tables) (flat_map f (drop i tables))
    (quant_text c.slot_of.result t) (flat_map f (drop (i + 1) tables)) c.in_err-write_table.field-0.0 step c.loop-table.invariant.part c.in_err-write_table.ensures)
