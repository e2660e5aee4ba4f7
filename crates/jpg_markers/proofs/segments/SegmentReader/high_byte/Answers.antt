use Rattle.jpg_markers.specs.Reading.{reading_of}
use Rattle.jpg_markers.proofs.Taking.{high_more}
use Rattle.jpg_markers.proofs.segments.SegmentReader.high_byte.Goals as goal

pub returns-clause-goes : goal.returns-clause-goes
returns-clause-goes c = λ bytes before s. high_more (reading_of c.args.self.now) bytes before c.args.byte c.requires s c.ranges.byte.fits
