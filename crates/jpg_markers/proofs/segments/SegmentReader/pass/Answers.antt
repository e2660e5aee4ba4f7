use Rattle.jpg_markers.specs.Reading.{reading_of}
use Rattle.jpg_markers.proofs.Continuing.{passes_segment}
use Rattle.jpg_markers.proofs.segments.SegmentReader.pass.Goals as goal

pub returns-clause-passed : goal.returns-clause-passed
returns-clause-passed c = passes_segment (reading_of c.args.self.now) c.args.segment.now.code c.args.segment.now.contents.now c.note.new.self c.args.segment.now.length c.requires.may c.note.ensures
