use Rattle.std.proofs.Common.{Bool, refl, sym, subst, ◌∙◌}
use Rattle.jpg_transform.specs.Planned.{scans_view}
use Rattle.jpg_color.specs.Encode.{image_view}
use Rattle.jpg_cli.specs.Tools.EncodedRead.{EndsEncoding}
use Rattle.jpg_cli.specs.Tools.EncodingAsked.{encoding_by}
use Rattle.jpg_cli.proofs.Encoding.EncodedRead.{image_encoded, reads_on}
use Rattle.jpg_desk.proofs.ImageTaken.{has_image, read_whole}
use Rattle.jpg_cli.proofs.tools.cjpeg_image.take_encoded.Goals as goal

pub returns-then-is_read-clause-read : goal.returns-then-is_read-clause-read
returns-then-is_read-clause-read g c =
    let state = g.D.Desk.state in
    let start = state c.args.desk.now in
    let now = state c.read_source.new.desk in
    let w = c.args.words.now in
    let E = encoding_by w (scans_view c.args.scans.now) c.args.tables in
    let I = image_view c.take.result in
    let holds = read_whole w.targa start c.in-Ok.reader now (sym c.is_read.ensures ∙ c.if-is_read.true) c.in-Ok.ensures.read.0 in
    image_encoded w.targa E start now I c.encode_whole.result (has_image w.targa start I c.in-Ok.reader now c.take.ensures holds).0 c.encode_whole.ensures

pub one_scan-requires : goal.one_scan-requires
one_scan-requires g c =
    let state = g.D.Desk.state in
    let more = sym c.is_read.ensures ∙ c.if-is_read.false in
    let on = reads_on c.args.words.now.targa (state c.args.desk.now) c.in-Ok.reader (state c.read_source.new.desk) more c.in-Ok.ensures.kept c.in-Ok.ensures.read.0 c.in-Some.ensures.begins in
    let b = on.1.1.begun in
    (_, b.info, b.asked, record { like = b.like; by = λ I. record { scans_are = refl; huffman = refl; restart = refl }; sampled = b.sampled })

pub encode_rows-requires-clause-goes : goal.encode_rows-requires-clause-goes
encode_rows-requires-clause-goes g c =
    let state = g.D.Desk.state in
    let more = sym c.is_read.ensures ∙ c.if-is_read.false in
    let on = reads_on c.args.words.now.targa (state c.args.desk.now) c.in-Ok.reader (state c.read_source.new.desk) more c.in-Ok.ensures.kept c.in-Ok.ensures.read.0 c.in-Some.ensures.begins in
    let b = on.1.1.begun in
    (_, state c.args.desk.now, on.1.0, record { goes = on.1.1; one = c.in-Some-one_scan.ensures _ _ _ (record { like = b.like; by = λ I. record { scans_are = refl; huffman = refl; restart = refl }; sampled = b.sampled }) })

pub encode_planes-requires-clause-goes : goal.encode_planes-requires-clause-goes
encode_planes-requires-clause-goes g c =
    let state = g.D.Desk.state in
    let more = sym c.is_read.ensures ∙ c.if-is_read.false in
    let on = reads_on c.args.words.now.targa (state c.args.desk.now) c.in-Ok.reader (state c.read_source.new.desk) more c.in-Ok.ensures.kept c.in-Ok.ensures.read.0 c.in-Some.ensures.begins in
    (_, state c.args.desk.now, on.1.0, on.1.1)

pub returns-in-Some-one_scan : goal.returns-in-Some-one_scan
returns-in-Some-one_scan g c =
    let state = g.D.Desk.state in
    let start = state c.args.desk.now in
    let E = encoding_by c.args.words.now (scans_view c.args.scans.now) c.args.tables in
    let more = sym c.is_read.ensures ∙ c.if-is_read.false in
    let on = reads_on c.args.words.now.targa start c.in-Ok.reader (state c.read_source.new.desk) more c.in-Ok.ensures.kept c.in-Ok.ensures.read.0 c.in-Some.ensures.begins in
    let b = on.1.1.begun in
    let h = c.encode_rows.ensures E start on.1.0 (record { goes = on.1.1; one = c.in-Some-one_scan.ensures E _ _ (record { like = b.like; by = λ I. record { scans_are = refl; huffman = refl; restart = refl }; sampled = b.sampled }) }) in
    record { kept = h.0; read = subst (λ (targa : Bool). EndsEncoding targa E start c.encode_rows.result (state c.encode_rows.new.desk)) (sym on.0) h.1 }

pub returns-in-None-one_scan : goal.returns-in-None-one_scan
returns-in-None-one_scan g c =
    let state = g.D.Desk.state in
    let start = state c.args.desk.now in
    let E = encoding_by c.args.words.now (scans_view c.args.scans.now) c.args.tables in
    let more = sym c.is_read.ensures ∙ c.if-is_read.false in
    let on = reads_on c.args.words.now.targa start c.in-Ok.reader (state c.read_source.new.desk) more c.in-Ok.ensures.kept c.in-Ok.ensures.read.0 c.in-Some.ensures.begins in
    let h = c.encode_planes.ensures E start on.1.0 on.1.1 in
    record { kept = h.0; read = subst (λ (targa : Bool). EndsEncoding targa E start c.encode_planes.result (state c.encode_planes.new.desk)) (sym on.0) h.1 }
