use Rattle.jpg_spec.specs.Meaning.{Meaning}
use Rattle.jpg_desk.specs.RowsRead.{rows_reader}
use Rattle.jpg_desk.specs.declared.rows_read.RowsRead.{RowsRead}
use Rattle.jpg_desk.proofs.Pumped.{feeds}
use Rattle.jpg_desk.proofs.rows_read.RowsReadPieceSink.feed.Goals as goal

pub take_piece-requires-clause-fed : goal.take_piece-requires-clause-fed
take_piece-requires-clause-fed g c = (let r = c.requires in (r.0.0, r.1, r.2.fed.fed.fed))

pub take_piece-requires-clause-few : goal.take_piece-requires-clause-few
take_piece-requires-clause-few g c = c.requires.2.reads.few

pub returns-clause-fed : goal.returns-clause-fed
returns-clause-fed g c = feeds RowsRead Meaning rows_reader c.args.self.now c.take_piece.new.self (g.D.Desk.state c.args._desk.now) c.args.piece.now c.take_piece.result c.take_piece.ensures
