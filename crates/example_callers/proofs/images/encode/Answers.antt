use Rattle.std.proofs.Common.{Err, subst, sym}
use Rattle.jpg_color.specs.Encode.{image_view}
use Rattle.jpg_color.specs.EncodeAnswer.{IsEncoded}
use Rattle.jpg_color.specs.declared.encode.EncodeStop.{EncodeStop}
use Rattle.jpg_spec_write.specs.declared.picture_fault.PictureFault.{PictureFault}
use Rattle.jpg_file.specs.Read.PictureRead.{picture_meaning}
use Rattle.example_callers.specs.Encoding.{IsEncodedFrom, encoding_at}
use Rattle.example_callers.specs.declared.pictures.NotTurned.TheVariants as unturned
use Rattle.example_callers.proofs.Encoded.{encoded_as_it_is, encoded_from, fault_encoded}
use Rattle.example_callers.proofs.images.encode.Goals as goal

pub returns-in-Ok-encode_picture : goal.returns-in-Ok-encode_picture
returns-in-Ok-encode_picture c =
    let image = image_view c.in-Ok.image in
    let e = encoding_at c.args.quality image in
    let asks = c.encoding_at-encoding.ensures.asks in
    let is = c.in-Ok-encode_picture.ensures in
    encoded_from c.args.file.now c.args.quality image c.write_as_it_is.result c.in-Ok.ensures.0
    (encoded_as_it_is c.args.quality image (picture_meaning c.in-Ok-encode_picture.picture) c.write_as_it_is.result (is.means e asks) (is.faultless e asks) c.write_as_it_is.ensures)

pub returns-in-Err-Picture : goal.returns-in-Err-Picture
returns-in-Err-Picture c =
    let image = image_view c.in-Ok.image in
    let e = encoding_at c.args.quality image in
    let h = subst (λ (stop : EncodeStop). IsEncoded c.in-Ok.image c.encoding_at-encoding.result (Err stop)) c.in-Err-Picture.field-0-is c.in-Err-Picture.ensures in
    let k = encoded_from c.args.file.now c.args.quality image (Err (unturned.Picture c.in-Err-Picture.fault)) c.in-Ok.ensures.0 (fault_encoded c.args.quality image c.in-Err-Picture.fault (h e c.encoding_at-encoding.ensures.asks)) in
    subst (λ (f : PictureFault). IsEncodedFrom c.args.file.now c.args.quality (Err (unturned.Picture f))) (sym c.in-Err-Picture.fault-is) k
