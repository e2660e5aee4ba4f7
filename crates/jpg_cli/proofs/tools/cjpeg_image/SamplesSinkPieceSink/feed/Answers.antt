use Rattle.jpg_spec_image.specs.Images.{Image}
use Rattle.jpg_desk.proofs.Pumped.{feeds}
use Rattle.jpg_cli.specs.Tools.SamplesFed.{is_targa_rest, samples_reader}
use Rattle.jpg_cli.specs.declared.tools.cjpeg_image.SamplesSink.{SamplesSink}
use Rattle.jpg_cli.proofs.tools.cjpeg_image.SamplesSinkPieceSink.feed.Goals as goal

pub take_samples-requires-clause-fed : goal.take_samples-requires-clause-fed
take_samples-requires-clause-fed g c = (let r = c.requires in (is_targa_rest r.0.0.rest, r.0.0.encoder, r.1, r.2.fed.fed.fed, r.2.most))

pub take_samples-requires-clause-few : goal.take_samples-requires-clause-few
take_samples-requires-clause-few g c = c.requires.2.reads.few

pub returns-clause-fed : goal.returns-clause-fed
returns-clause-fed g c = feeds SamplesSink Image samples_reader c.args.self.now c.take_samples.new.sink (g.D.Desk.state c.args._desk.now) c.args.piece.now c.take_samples.result c.take_samples.ensures
