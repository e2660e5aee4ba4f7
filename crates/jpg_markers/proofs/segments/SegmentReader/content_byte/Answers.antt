use Rattle.std.proofs.Common.{◌-◌, ◌++◌, ◌∷◌, [], List, ℕ, Ok, arith, sym, subst}
use Rattle.jpg_markers.specs.declared.segments.SegStep.TheVariants as step
use Rattle.jpg_markers.specs.Reading.{Comes, reading_of, HasWholeSegment}
use Rattle.jpg_markers.proofs.Taking.{content_more, content_whole}
use Rattle.jpg_markers.proofs.segments.SegmentReader.content_byte.Goals as goal

pub returns-then-self-gt1-clause-goes : goal.returns-then-self-gt1-clause-goes
returns-then-self-gt1-clause-goes c = λ bytes before s.
    let r = reading_of c.args.self.now in
    let P : List ℕ → Type 0 = λ xs. Comes (bytes ++ c.args.byte ∷ []) before (Ok step.More) (record r { left = r.left - 1; contents = xs }) in
    subst P (sym c.in-Ok.ensures.items) (content_more r bytes before c.args.byte (r.left - 1) c.requires s (omega (arith, c.if-self-gt1.true)) (omega (arith, c.if-self-gt1.true)))

pub returns-else-self-gt1-clause-goes : goal.returns-else-self-gt1-clause-goes
returns-else-self-gt1-clause-goes c = λ bytes before s.
    let r = reading_of c.args.self.now in
    let P : List ℕ → Type 0 = λ xs. HasWholeSegment (bytes ++ c.args.byte ∷ []) before (record r { contents = xs }) in
    c.whole.ensures.goes (bytes ++ c.args.byte ∷ []) before s.0 (subst P (sym c.in-Ok.ensures.items) (content_whole r bytes before c.args.byte c.requires s (omega (arith, c.if-self-gt1.false))))
