use Rattle.jpg_transform.specs.Planned.{scans_view}
use Rattle.jpg_words.specs.EncodeWords.{encode_view}
use Rattle.jpg_cli.proofs.Encoding.ImageEncoded.{encoded_in, no_scans}
use Rattle.jpg_cli.proofs.tools.cjpeg.encode.Goals as goal

pub returns-in-Ok-clause-encoded : goal.returns-in-Ok-clause-encoded
returns-in-Ok-clause-encoded g c =
    let state = g.D.Desk.state in
    encoded_in (encode_view c.args.words) (scans_view c.in-Ok.scans) (state c.args.desk.now) (state c.take_scans.new.desk) (state c.encode_in.new.desk) c.encode_in.result
    (record { asked = c.in-Ok.ensures.after.0; kept = c.in-Ok.ensures.kept }) c.in-Ok.ensures.after.1 c.encode_in.ensures.encoded

pub returns-in-Err-clause-encoded : goal.returns-in-Err-clause-encoded
returns-in-Err-clause-encoded g c =
    let state = g.D.Desk.state in
    no_scans (encode_view c.args.words) (state c.args.desk.now) (state c.take_scans.new.desk) c.in-Err.why c.in-Err.ensures.after
