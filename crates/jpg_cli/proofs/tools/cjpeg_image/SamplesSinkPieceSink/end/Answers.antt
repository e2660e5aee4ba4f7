use Rattle.jpg_spec_image.specs.Images.{Image}
use Rattle.jpg_desk.proofs.Pumped.{ends}
use Rattle.jpg_cli.specs.Tools.SamplesFed.{is_targa_rest, samples_reader}
use Rattle.jpg_cli.specs.declared.tools.cjpeg_image.SamplesSink.{SamplesSink}
use Rattle.jpg_cli.proofs.tools.cjpeg_image.SamplesSinkPieceSink.end.Goals as goal

pub end_samples-requires : goal.end_samples-requires
end_samples-requires g c = (let r = c.requires in (is_targa_rest r.0.0.rest, r.0.0.encoder, r.1, r.2.fed.fed.fed))

pub returns : goal.returns
returns g c = ends SamplesSink Image samples_reader c.args.self.now c.end_samples.new.sink (g.D.Desk.state c.args._desk.now) c.end_samples.result (λ more. more) c.end_samples.ensures
