use Rattle.jpg_spec.specs.Meaning.{Meaning}
use Rattle.jpg_desk.specs.RowsRead.{rows_front}
use Rattle.jpg_desk.specs.declared.rows_read.RowsFront.{RowsFront}
use Rattle.jpg_desk.proofs.Pumped.{feeds}
use Rattle.jpg_desk.proofs.rows_read.RowsFrontPieceSink.feed.Goals as goal

pub begin-requires-clause-fed : goal.begin-requires-clause-fed
begin-requires-clause-fed g c = (let r = c.requires in (r.0.0, r.1, r.2.fed.fed.fed))

pub begin-requires-clause-few : goal.begin-requires-clause-few
begin-requires-clause-few g c = c.requires.2.reads.few

pub returns-clause-fed : goal.returns-clause-fed
returns-clause-fed g c = feeds RowsFront Meaning rows_front c.args.self.now c.begin.new.self (g.D.Desk.state c.args._desk.now) c.args.piece.now c.begin.result c.begin.ensures
