use Rattle.std.proofs.Common.{[], ◌∷◌, ◌++◌, arith}
use Rattle.jpg_markers.specs.Reading.{reading_of}
use Rattle.jpg_markers.proofs.Taking.{low_fault, low_whole, low_more}
use Rattle.jpg_markers.proofs.segments.SegmentReader.low_byte.Goals as goal

pub returns-then-length-lt2-clause-goes : goal.returns-then-length-lt2-clause-goes
returns-then-length-lt2-clause-goes c = λ bytes before s.
    let r = reading_of c.args.self.now in
    low_fault r bytes before c.args.byte c.requires s (omega (arith, c.read_u16-length.ensures, c.if-length-lt2.true))

pub returns-then-self-eq0-clause-goes : goal.returns-then-self-eq0-clause-goes
returns-then-self-eq0-clause-goes c = λ bytes before s.
    let r = reading_of c.args.self.now in
    c.whole.ensures.goes (bytes ++ c.args.byte ∷ []) before s.0 (rw c.clear.ensures.items (low_whole r bytes before c.args.byte c.requires s c.ranges.byte.fits (omega (arith, c.read_u16-length.ensures, c.if-length-lt2.false, c.if-self-eq0.true))))

pub returns-clause-goes : goal.returns-clause-goes
returns-clause-goes c = λ bytes before s.
    let r = reading_of c.args.self.now in
    rw c.clear.ensures.items (low_more r bytes before c.args.byte _ c.requires s c.ranges.byte.fits (omega (arith, c.read_u16-length.ensures, c.if-length-lt2.false)) (omega (arith, c.if-self-eq0.false)))
