use Rattle.std.proofs.Common.{ℕ, [], ◌∷◌, ◌++◌, Ok, None, Some, sym, subst, ◌∙◌}
use Rattle.jpg_spec.specs.Markers.{SegmentsReveal, kept_rule}
use Rattle.jpg_spec.specs.declared.fault.Fault.TheVariants.{NoMarker}
use Rattle.jpg_markers.specs.declared.segments.SegStep.TheVariants as step
use Rattle.jpg_markers.specs.Reading.{Comes, RevealsAfter, reading_of}
use Rattle.jpg_markers.proofs.Taking.{fill_again, fill_stuffed, fault_from, code_wrong, code_ends, code_frame, code_more}
use Rattle.jpg_markers.proofs.segments.SegmentReader.code_byte.Goals as goal

pub returns-then-code-eq255-clause-goes : goal.returns-then-code-eq255-clause-goes
returns-then-code-eq255-clause-goes c = λ bytes before s.
    let r = reading_of c.args.self.now in
    subst (λ (k : ℕ). Comes (bytes ++ k ∷ []) before (Ok step.More) r) (sym c.if-code-eq255.true) (fill_again r bytes before c.requires s)

pub returns-then-code-eq0-clause-goes : goal.returns-then-code-eq0-clause-goes
returns-then-code-eq0-clause-goes c = λ bytes before s.
    let r = reading_of c.args.self.now in
    subst (λ (k : ℕ). SegmentsReveal (kept_rule r.limits) NoMarker (bytes ++ k ∷ []) × RevealsAfter (kept_rule r.limits) before NoMarker (bytes ++ k ∷ [])) (sym c.if-code-eq0.true) (fill_stuffed r bytes before c.requires s)

pub returns-in-Some-clause-goes : goal.returns-in-Some-clause-goes
returns-in-Some-clause-goes c = λ bytes before s.
    let r = reading_of c.args.self.now in
    code_wrong r bytes before c.args.code c.in-Some.fault c.requires s c.if-code-eq0.false c.if-code-eq255.false (fault_from r c.args.code c.code_fault.result (Some c.in-Some.fault) c.code_fault.ensures c.in-Some.is)

pub returns-then-code-eq-EOI-clause-goes : goal.returns-then-code-eq-EOI-clause-goes
returns-then-code-eq-EOI-clause-goes c = λ bytes before s.
    let r = reading_of c.args.self.now in
    code_ends r bytes before c.args.code c.requires s c.if-code-eq0.false c.if-code-eq255.false c.if-code-eq-EOI.true
    (fault_from r c.args.code c.code_fault.result None c.code_fault.ensures c.in_default.is)

pub returns-then-is_frame_code-clause-goes : goal.returns-then-is_frame_code-clause-goes
returns-then-is_frame_code-clause-goes c = λ bytes before s.
    let r = reading_of c.args.self.now in
    code_frame r bytes before c.args.code c.requires s c.if-code-eq0.false c.if-code-eq255.false c.if-code-eq-EOI.false
    (fault_from r c.args.code c.code_fault.result None c.code_fault.ensures c.in_default.is) (sym c.is_frame_code.ensures ∙ c.if-is_frame_code.true)

pub returns-else-is_frame_code-clause-goes : goal.returns-else-is_frame_code-clause-goes
returns-else-is_frame_code-clause-goes c = λ bytes before s.
    let r = reading_of c.args.self.now in
    code_more r bytes before c.args.code c.requires s c.if-code-eq0.false c.if-code-eq255.false c.if-code-eq-EOI.false
    (fault_from r c.args.code c.code_fault.result None c.code_fault.ensures c.in_default.is) (sym c.is_frame_code.ensures ∙ c.if-is_frame_code.false)
