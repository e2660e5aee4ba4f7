use Rattle.std.proofs.Common.{◌≡◌, [], ap, ◌∙◌}
use Rattle.std.proofs.lemmas.Result.{err_from_is_err_and}
use Rattle.jpg_spec_write.specs.FileText.{distinct_after}
use Rattle.jpg_markers.proofs.HeadSent.{no_start, no_markers, no_tables, whole_head}
use Rattle.jpg_markers.proofs.writing.file_head.Goals as goal

pub returns-in_err-raw : goal.returns-in_err-raw
returns-in_err-raw g c =
    let state = g.D.Desk.state in
    let back = err_from_is_err_and c.from_residual.result c.from_residual.ensures.1 in
    rw (back.1, back.2) (no_start (state c.args.desk.now) c.args.out.now c.args.head.now c.args.kept.now c.requires.can.none c.requires.tables (state c.raw.new.desk) c.raw.new.self c.in_err-raw.field-0.0
    c.in_err-raw.ensures)

pub returns-in_err-write_markers : goal.returns-in_err-write_markers
returns-in_err-write_markers g c =
    let state = g.D.Desk.state in
    let back = err_from_is_err_and c.from_residual-in_err-write_markers.result c.from_residual-in_err-write_markers.ensures.1 in
    rw (back.1, back.2) (no_markers (state c.args.desk.now) c.args.out.now c.args.head.now c.args.kept.now c.requires.can.none c.requires.tables (state c.raw.new.desk) c.raw.new.self
    c.in_ok-raw.ensures (state c.write_markers.new.desk) c.write_markers.new.out c.in_err-write_markers.field-0.0 c.in_err-write_markers.ensures)

pub returns-in_err-write_tables : goal.returns-in_err-write_tables
returns-in_err-write_tables g c =
    let state = g.D.Desk.state in
    let back = err_from_is_err_and c.from_residual-in_err-write_tables.result c.from_residual-in_err-write_tables.ensures.1 in
    let distinct : c.distinct_tables-tables.result.items ≡ distinct_after [] c.args.head.now.quants.items = c.distinct_tables-tables.ensures ∙ ap (distinct_after []) c.as_slice.ensures.value in
    rw (back.1, back.2) (no_tables (state c.args.desk.now) c.args.out.now c.args.head.now c.args.kept.now c.requires.can.none c.requires.tables (state c.raw.new.desk) c.raw.new.self
    c.in_ok-raw.ensures (state c.write_markers.new.desk) c.write_markers.new.out c.in_ok-write_markers.ensures (state c.write_tables.new.desk) c.write_tables.new.out
    c.in_err-write_tables.field-0.0 c.as_slice-2.result.now (c.as_slice-2.ensures.value ∙ distinct) c.in_err-write_tables.ensures)

pub returns : goal.returns
returns g c =
    let state = g.D.Desk.state in
    let distinct : c.distinct_tables-tables.result.items ≡ distinct_after [] c.args.head.now.quants.items = c.distinct_tables-tables.ensures ∙ ap (distinct_after []) c.as_slice.ensures.value in
    (whole_head (state c.args.desk.now) c.args.out.now c.args.head.now c.args.kept.now c.requires.can.none c.requires.tables (state c.raw.new.desk) c.raw.new.self
    c.in_ok-raw.ensures (state c.write_markers.new.desk) c.write_markers.new.out c.in_ok-write_markers.ensures (state c.write_tables.new.desk) (state c.write_frame.new.desk)
    c.write_tables.new.out c.write_frame.new.out c.write_frame.result c.as_slice-2.result.now c.as_slice-3.result.now (c.as_slice-2.ensures.value ∙ distinct) (c.as_slice-3.ensures.value ∙ distinct)
    c.in_ok-write_tables.ensures c.write_frame.ensures)
