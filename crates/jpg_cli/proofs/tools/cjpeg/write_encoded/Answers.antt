use Rattle.std.proofs.Common.{None, refl}
use Rattle.jpg_spec_encode.specs.Encoded.{encoded}
use Rattle.jpg_transform.specs.Planned.{scans_view}
use Rattle.jpg_color.specs.Encode.{CanEncode, image_view}
use Rattle.jpg_cli.specs.Tools.EncodingAsked.{asked_of}
use Rattle.jpg_cli.proofs.Encoding.ImageEncoded.{encoded_written, is_encodable, none_encoded}
use Rattle.jpg_cli.proofs.tools.cjpeg.write_encoded.Goals as goal

pub returns-in-Ok-clause-wrote : goal.returns-in-Ok-clause-wrote
returns-in-Ok-clause-wrote g c =
    let state = g.D.Desk.state in
    let e = asked_of c.args.words.now (scans_view c.args.scans) None c.args.image.now in
    let asks = c.encoding_of-encoding.ensures.asks (image_view c.args.image.now) refl in
    let kind = c.encoding_of-encoding.ensures.can in
    let all : CanEncode c.args.image.now c.encoding_of-encoding.result = record { image = c.requires; factors = kind.factors; pairs = kind.pairs; first = kind.first; others = kind.others } in
    let can = is_encodable e c.args.image.now c.encoding_of-encoding.result c.requires asks all c.counted.ensures in
    encoded_written e (image_view c.args.image.now) c.args.words.now.files.output (state c.args.desk.now) (state c.write_picture.new.desk) c.write_picture.result
    can (c.in-Ok.ensures.faultless e asks) (c.write_picture.ensures.wrote (encoded e (image_view c.args.image.now)) (c.in-Ok.ensures.means e asks))

pub returns-in-Err-clause-wrote : goal.returns-in-Err-clause-wrote
returns-in-Err-clause-wrote g c =
    let e = asked_of c.args.words.now (scans_view c.args.scans) None c.args.image.now in
    none_encoded c.args.image.now c.encoding_of-encoding.result e c.args.words.now.files.output (g.D.Desk.state c.args.desk.now) c.in-Err.stop c.why_not_encoded.result c.why_not_encoded.ensures
    (c.encoding_of-encoding.ensures.asks (image_view c.args.image.now) refl) c.in-Err.ensures
