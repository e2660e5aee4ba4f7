use Rattle.jpg_markers.specs.Reading.{reading_of}
use Rattle.jpg_markers.proofs.Taking.{start_fault}
use Rattle.jpg_markers.proofs.segments.SegmentReader.first_byte.Goals as goal

pub returns-then-byte-ne255-clause-goes : goal.returns-then-byte-ne255-clause-goes
returns-then-byte-ne255-clause-goes c = λ bytes before s. start_fault (reading_of c.args.self.now) bytes before c.args.byte c.requires s c.if-byte-ne255.true
