use Rattle.std.proofs.Common.{Ok}
use Rattle.jpg_markers.specs.Reading.{reading_of}
use Rattle.jpg_markers.proofs.Continuing.{continues_stands}
use Rattle.jpg_markers.proofs.segments.SegmentReader.stretch.Goals as goal

pub returns-in-Contents-clause-stands : goal.returns-in-Contents-clause-stands
returns-in-Contents-clause-stands c =
    continues_stands (reading_of c.args.self.now) c.args.bytes.now c.take_contents.result (reading_of c.take_contents.new.self) c.take_contents.ensures.continues

pub returns-in-Fill-clause-stands : goal.returns-in-Fill-clause-stands
returns-in-Fill-clause-stands c =
    continues_stands (reading_of c.args.self.now) c.args.bytes.now (Ok c.take_fill.result) (reading_of c.take_fill.new.self) c.take_fill.ensures.continues
