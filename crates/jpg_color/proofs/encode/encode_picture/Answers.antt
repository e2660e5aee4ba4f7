use Rattle.jpg_color.proofs.PicturesEncoded.{can_sample, encoded_same, stopped_same}
use Rattle.jpg_color.proofs.encode.encode_picture.Goals as goal

pub new-requires : goal.new-requires
new-requires c =
    let e = c.copy.ensures in
    can_sample c.args.image.now c.args.encoding.now c.copy.result (record { gray = e.gray; progressive = e.progressive; factors = e.factors; tables = e.tables }) c.requires

pub returns-in-Ok-picture_of : goal.returns-in-Ok-picture_of
returns-in-Ok-picture_of c =
    let e = c.copy.ensures in
    encoded_same c.args.image.now c.args.encoding.now c.copy.result c.in-Ok-picture_of.picture (record { gray = e.gray; progressive = e.progressive; factors = e.factors; tables = e.tables })
    (c.in-Ok-picture_of.ensures c.copy.result c.in-Ok.ensures.begins)

pub returns-in-Err : goal.returns-in-Err
returns-in-Err c =
    let e = c.copy.ensures in
    stopped_same c.args.image.now c.args.encoding.now c.copy.result c.in-Err.stop (record { gray = e.gray; progressive = e.progressive; factors = e.factors; tables = e.tables }) c.in-Err.ensures.begins
