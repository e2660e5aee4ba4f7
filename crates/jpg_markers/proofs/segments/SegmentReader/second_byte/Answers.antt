use Rattle.std.proofs.Common.{ℕ, [], ◌∷◌, ◌++◌, Ok, sym, subst}
use Rattle.jpg_markers.specs.declared.segments.Phase.TheVariants as phase
use Rattle.jpg_markers.specs.declared.segments.SegStep.TheVariants as step
use Rattle.jpg_markers.specs.Reading.{Comes, reading_of}
use Rattle.jpg_markers.proofs.Taking.{second_fault, second_start}
use Rattle.jpg_markers.proofs.segments.SegmentReader.second_byte.Goals as goal

pub returns-then-byte-ne-SOI-clause-goes : goal.returns-then-byte-ne-SOI-clause-goes
returns-then-byte-ne-SOI-clause-goes c = λ bytes before s. second_fault (reading_of c.args.self.now) bytes before c.args.byte c.requires s c.if-byte-ne-SOI.true

pub returns-clause-goes : goal.returns-clause-goes
returns-clause-goes c = λ bytes before s.
    let r = reading_of c.args.self.now in
    subst (λ (k : ℕ). Comes (bytes ++ k ∷ []) before (Ok step.Start) (record r { phase = phase.Between })) (sym c.if-byte-ne-SOI.false) (second_start r bytes before c.requires s)
