use Rattle.std.proofs.Common.{◌∙◌}
use Rattle.jpg_spec.specs.Meaning.{Meaning}
use Rattle.jpg_desk.specs.RowsRead.{rows_front}
use Rattle.jpg_desk.specs.declared.rows_read.RowsFront.{RowsFront}
use Rattle.jpg_desk.proofs.Pumped.{ends}
use Rattle.jpg_desk.proofs.rows_read.RowsFrontPieceSink.end.Goals as goal

pub at_end-requires : goal.at_end-requires
at_end-requires g c = (let r = c.requires in (r.0.0, r.1, r.2.fed.fed.fed))

pub returns : goal.returns
returns g c = ends RowsFront Meaning rows_front c.args.self.now c.at_end.new.self (g.D.Desk.state c.args._desk.now) c.at_end.result (λ more. more (c.at_end.ensures.none ∙ c.requires.2.fed.fed.fed.read.none)) c.at_end.ensures.ends
