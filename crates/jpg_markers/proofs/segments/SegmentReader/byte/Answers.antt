use Rattle.jpg_markers.proofs.segments.SegmentReader.byte.Goals as goal

pub returns-clause-memory : goal.returns-clause-memory
returns-clause-memory c = λ bytes before s room. c.answer.ensures.memory (c.next-next.ensures.memory bytes before s room)
