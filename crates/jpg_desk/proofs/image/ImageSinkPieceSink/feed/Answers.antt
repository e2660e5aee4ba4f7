use Rattle.std.proofs.Common.{Bool, true, Ok, Err, refl, subst, arith}
use Rattle.std.proofs.lemmas.List.{length-append}
use Rattle.jpg_spec_image.specs.Images.{Image}
use Rattle.jpg_desk.specs.ImageSource.{TakesImagePiece}
use Rattle.jpg_desk.specs.ImageTaken.{image_reader, is_targa}
use Rattle.jpg_desk.specs.declared.image.ImageSink.{ImageSink}
use Rattle.jpg_desk.proofs.ImageFed.{fed_more, fed_taken}
use Rattle.jpg_desk.proofs.ImageTaken.{sink_ended, sink_more, sink_whole}
use Rattle.jpg_desk.proofs.Pumped.{feeds}
use Rattle.jpg_desk.proofs.image.ImageSinkPieceSink.feed.Goals as goal

pub feed-requires-clause-more : goal.feed-requires-clause-more
feed-requires-clause-more g c = fed_more (is_targa c.requires.0.0.source) c.requires.1 c.args.self.now.source c.requires.2.fed.fed.fed.fed

pub feed-requires-clause-room : goal.feed-requires-clause-room
feed-requires-clause-room g c =
    let t = fed_taken (is_targa c.requires.0.0.source) c.requires.1 c.args.self.now.source c.requires.2.fed.fed.fed.fed in
    let most = c.requires.2.most in
    let l = length-append c.requires.1 c.args.piece.now in
    omega (arith, t, most, l)

pub feed-requires-clause-short : goal.feed-requires-clause-short
feed-requires-clause-short g c = (let few = c.requires.2.reads.few in omega (arith, few))

pub feed-requires-clause-some : goal.feed-requires-clause-some
feed-requires-clause-some g c = c.requires.2.reads.some

pub returns-in-Err-clause-fed : goal.returns-in-Err-clause-fed
returns-in-Err-clause-fed g c =
    let new : ImageSink = record { source = c.feed.new.self; to_end = c.args.self.now.to_end } in
    feeds ImageSink Image image_reader c.args.self.now new (g.D.Desk.state c.args._desk.now) c.args.piece.now (Err c.in-Err.why) (sink_ended c.args.self.now new c.args.piece.now c.in-Err.why c.in-Err.ensures)

pub returns-then-whole-clause-fed : goal.returns-then-whole-clause-fed
returns-then-whole-clause-fed g c =
    let takes = subst (λ (b : Bool). TakesImagePiece c.args.self.now.source c.args.piece.now (Ok b) c.feed.new.self) c.if-whole.true c.in-Ok.ensures in
    let new : ImageSink = record { source = c.feed.new.self; to_end = c.args.self.now.to_end } in
    feeds ImageSink Image image_reader c.args.self.now new (g.D.Desk.state c.args._desk.now) c.args.piece.now (Ok true) (sink_whole c.args.self.now new c.args.piece.now takes)

pub returns-else-whole-clause-fed : goal.returns-else-whole-clause-fed
returns-else-whole-clause-fed g c =
    let takes = subst (λ (b : Bool). TakesImagePiece c.args.self.now.source c.args.piece.now (Ok b) c.feed.new.self) c.if-whole.false c.in-Ok.ensures in
    let new : ImageSink = record { source = c.feed.new.self; to_end = c.args.self.now.to_end } in
    feeds ImageSink Image image_reader c.args.self.now new (g.D.Desk.state c.args._desk.now) c.args.piece.now c.stops_here.result (sink_more c.args.self.now new c.args.piece.now c.stops_here.result refl takes c.stops_here.ensures)
