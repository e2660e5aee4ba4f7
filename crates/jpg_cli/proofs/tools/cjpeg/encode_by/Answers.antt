use Rattle.std.proofs.Common.{refl, subst, sym}
use Rattle.jpg_spec_words.specs.declared.answers.Why.{Why}
use Rattle.jpg_cli.specs.Tools.EncodedRead.{IsEncodedPicture}
use Rattle.jpg_cli.specs.Tools.ImageWritten.{AfterEncoding}
use Rattle.jpg_desk.specs.declared.encoded_rows.EncodedPicture.{EncodedPicture}
use Rattle.jpg_cli.proofs.Encoding.EncodedWritten.{rows_have, rows_written}
use Rattle.jpg_transform.specs.Planned.{scans_view}
use Rattle.jpg_cli.specs.Tools.EncodingAsked.{encoding_by, lent_tables}
use Rattle.jpg_cli.proofs.Encoding.ImageEncoded.{encoded_after, encoded_unread, names_view}
use Rattle.jpg_cli.proofs.tools.cjpeg.encode_by.Goals as goal

pub write_image-requires : goal.write_image-requires
write_image-requires g c =
    let read = c.in-Ok-Planes.ensures.read.1 in (
      encoding_by c.args.words.now (scans_view c.args.scans.now) c.args.tables read.0,
      read.0,
      record { scans_are = refl; huffman = refl; restart = refl },
      subst (λ (p : EncodedPicture). IsEncodedPicture (encoding_by c.args.words.now (scans_view c.args.scans.now) c.args.tables read.0) read.0 p) c.in-Ok-Planes.field-0-is read.2,
    )

pub returns-in-Ok-Planes-clause-encoded : goal.returns-in-Ok-Planes-clause-encoded
returns-in-Ok-Planes-clause-encoded g c =
    let state = g.D.Desk.state in
    let w = c.args.words.now in
    let scans = scans_view c.args.scans.now in
    let E = encoding_by w scans c.args.tables in
    let read = c.in-Ok-Planes.ensures.read.1 in
    names_view w scans (lent_tables c.args.tables) (state c.args.desk.now) (state c.write_image.new.desk) c.write_image.result
    (encoded_after w.files.input w.targa w.files.output E read.0 (state c.args.desk.now) (state c.read_encoded.new.desk) (state c.write_image.new.desk) c.write_image.result
    (record { kept = c.in-Ok-Planes.ensures.kept; asked = c.in-Ok-Planes.ensures.read.0; read = read.1; all = tt; left = c.write_image.ensures.left })
    (c.write_image.ensures.wrote (E read.0) read.0 (record { scans_are = refl; huffman = refl; restart = refl }) (subst (λ (p : EncodedPicture). IsEncodedPicture (E read.0) read.0 p) c.in-Ok-Planes.field-0-is read.2)))

pub write_rows-requires : goal.write_rows-requires
write_rows-requires g c =
    let read = c.in-Ok-Rows.ensures.read.1 in
    let is = subst (λ (p : EncodedPicture). IsEncodedPicture (encoding_by c.args.words.now (scans_view c.args.scans.now) c.args.tables read.0) read.0 p) c.in-Ok-Rows.field-0-is read.2 in
    rows_have is

pub returns-in-Ok-Rows-clause-encoded : goal.returns-in-Ok-Rows-clause-encoded
returns-in-Ok-Rows-clause-encoded g c =
    let state = g.D.Desk.state in
    let w = c.args.words.now in
    let scans = scans_view c.args.scans.now in
    let E = encoding_by w scans c.args.tables in
    let read = c.in-Ok-Rows.ensures.read.1 in
    names_view w scans (lent_tables c.args.tables) (state c.args.desk.now) (state c.write_rows.new.desk) c.why_wrote.result
    (encoded_after w.files.input w.targa w.files.output E read.0 (state c.args.desk.now) (state c.read_encoded.new.desk) (state c.write_rows.new.desk) c.why_wrote.result
    (record { kept = c.in-Ok-Rows.ensures.kept; asked = c.in-Ok-Rows.ensures.read.0; read = read.1; all = tt; left = c.write_rows.ensures.left })
    (subst (λ (e : Why). AfterEncoding (E read.0) read.0 w.files.output (state c.read_encoded.new.desk) e (state c.write_rows.new.desk)) (sym c.why_wrote.ensures)
    (rows_written c.in-Ok-Rows.rows w.files.output (state c.read_encoded.new.desk) (state c.write_rows.new.desk) c.write_rows.result (subst (λ (p : EncodedPicture). IsEncodedPicture (E read.0) read.0 p) c.in-Ok-Rows.field-0-is read.2) c.write_rows.ensures.output)))

pub returns-in-Err-clause-encoded : goal.returns-in-Err-clause-encoded
returns-in-Err-clause-encoded g c =
    let state = g.D.Desk.state in
    let w = c.args.words.now in
    let scans = scans_view c.args.scans.now in
    names_view w scans (lent_tables c.args.tables) (state c.args.desk.now) (state c.read_encoded.new.desk) c.in-Err.why
    (encoded_unread w.files.input w.targa w.files.output (encoding_by w scans c.args.tables) (state c.args.desk.now) (state c.read_encoded.new.desk) c.in-Err.why c.in-Err.ensures.kept c.in-Err.ensures.read)
