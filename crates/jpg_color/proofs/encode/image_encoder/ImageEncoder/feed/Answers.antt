use Rattle.jpg_color.proofs.RowsEncoded.{rows_fed}
use Rattle.jpg_color.proofs.encode.image_encoder.ImageEncoder.feed.Goals as goal

pub returns-in-Rows-clause-adds : goal.returns-in-Rows-clause-adds
returns-in-Rows-clause-adds c = rows_fed c.args.self.now c.in-Rows.rows c.feed-in-Rows.new.self c.args.samples.now _ c.in-Rows.is c.feed-in-Rows.ensures.adds
