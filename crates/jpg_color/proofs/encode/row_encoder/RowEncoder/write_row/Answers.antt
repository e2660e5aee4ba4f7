use Rattle.std.proofs.Common.{refl}
use Rattle.jpg_color.proofs.RowsEncoded.{one_put, same_keep, some_put, written_row}
use Rattle.jpg_color.proofs.encode.row_encoder.RowEncoder.write_row.Goals as goal

pub put-requires-clause-some : goal.put-requires-clause-some
put-requires-clause-some c = some_put c.args.self.now c.requires.4

pub put-requires-clause-can : goal.put-requires-clause-can
put-requires-clause-can c =
    let self = c.args.self.now in
    let one = one_put self c.requires.4 in
    (one.0, same_keep one.0 self c.frame.ensures c.planes.ensures c.dropped.ensures one.1)

pub returns-clause-writes : goal.returns-clause-writes
returns-clause-writes c = λ w info a given can.
    let self = c.args.self.now in
    written_row w info a given self _ c.drop_rows.ensures refl refl refl (λ s keep. c.in_ok-put.ensures.puts s (same_keep s self c.frame.ensures c.planes.ensures c.dropped.ensures keep)) c.in_ok-put.ensures.left can
