use Rattle.jpg_desk.specs.EncodedRows.{scan_of}
use Rattle.jpg_desk.specs.ImageTaken.{is_targa}
use Rattle.jpg_cli.proofs.Encoding.EncodedRead.{begun_unheld, none_encoded, rows_begin, rows_encoded, rows_go}
use Rattle.jpg_cli.proofs.tools.cjpeg_image.encode_rows.Goals as goal

pub new-rows-requires : goal.new-rows-requires
new-rows-requires g c = rows_begin c.as_ref-scan.result.now c.new-encoders.result c.new-encoders.ensures c.as_ref-scan.ensures c.args.sampler.keeps.frame c.requires.goes.3

pub rows_data-requires-clause-goes : goal.rows_data-requires-clause-goes
rows_data-requires-clause-goes g c =
    let r = c.requires.goes in
    (r.0, scan_of c.args.file, r.1, r.2, rows_go c.as_ref-scan.result.now c.new-encoders.result c.new-rows.result c.new-rows.ensures.begins c.new-encoders.ensures c.as_ref-scan.ensures r.3)

pub returns-in-Err : goal.returns-in-Err
returns-in-Err g c = λ E start bytes h.
    let go = rows_go c.as_ref-scan.result.now c.new-encoders.result c.new-rows.result c.new-rows.ensures.begins c.new-encoders.ensures c.as_ref-scan.ensures h in
    let r = c.in-Err.ensures E (scan_of c.args.file) start bytes go in
    (r.0, none_encoded (is_targa c.args.reader) E start (g.D.Desk.state c.rows_data.new.desk) c.in-Err.why r.1)

pub returns-in-Ok-rows_data : goal.returns-in-Ok-rows_data
returns-in-Ok-rows_data g c = λ E start bytes h.
    let go = rows_go c.as_ref-scan.result.now c.new-encoders.result c.new-rows.result c.new-rows.ensures.begins c.new-encoders.ensures c.as_ref-scan.ensures h in
    let r = c.in-Ok-rows_data.ensures E (scan_of c.args.file) start bytes go in
    (r.0, rows_encoded h c.in-Ok-rows_data.bytes r.1)

pub returns-in_default : goal.returns-in_default
returns-in_default g c = λ E start bytes h. begun_unheld h.goes
