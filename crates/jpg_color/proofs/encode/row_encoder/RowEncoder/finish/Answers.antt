use Rattle.std.proofs.Common.{arith}
use Rattle.jpg_color.specs.EncodeRows.{scan_due}
use Rattle.jpg_color.proofs.RowsEncoded.{encodes, ended}
use Rattle.jpg_color.proofs.encode.row_encoder.RowEncoder.finish.Goals as goal

pub finish-requires-clause-keeps : goal.finish-requires-clause-keeps
finish-requires-clause-keeps c =
    let r = c.requires in
    (scan_due r.0 r.1 r.2 r.3, ended r.0 r.1 r.2 r.3 c.args.self (omega (arith, c.if-left-gt0.false, c.left.ensures)) r.4)

pub returns : goal.returns
returns c = encodes c.args.self _ (omega (arith, c.if-left-gt0.false, c.left.ensures)) c.finish.ensures
