use Rattle.jpg_spec_image.specs.Images.{Image}
use Rattle.jpg_desk.specs.ImageTaken.{image_reader, is_targa}
use Rattle.jpg_desk.specs.declared.image.ImageSink.{ImageSink}
use Rattle.jpg_desk.proofs.ImageFed.{fed_more}
use Rattle.jpg_desk.proofs.ImageTaken.{sink_closed, sink_end}
use Rattle.jpg_desk.proofs.Pumped.{ends_closed}
use Rattle.jpg_desk.proofs.image.ImageSinkPieceSink.end.Goals as goal

pub end-requires : goal.end-requires
end-requires g c = fed_more (is_targa c.requires.0.0.source) c.requires.1 c.args.self.now.source c.requires.2.fed.fed.fed.fed

pub returns : goal.returns
returns g c =
    let old = c.args.self.now in
    let new : ImageSink = record { source = c.end.new.self; to_end = old.to_end } in
    ends_closed ImageSink Image image_reader old new (g.D.Desk.state c.args._desk.now) c.end.result (sink_end old new c.end.result c.end.ensures) (sink_closed old new c.end.result c.end.ensures)
