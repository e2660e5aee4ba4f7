use Rattle.std.proofs.Common.{◌≡◌, ◌∷◌, List, ℕ, Some, None, subst}
use Rattle.jpg_spec.specs.Markers.{kept_rule}
use Rattle.jpg_spec.specs.declared.fault.Fault.TheVariants.{MarkersTooLarge}
use Rattle.jpg_markers.specs.Seen.{HasSeen}
use Rattle.jpg_markers.specs.Reading.{reading_of}
use Rattle.jpg_markers.proofs.Taking.{whole_fault, whole_passes}
use Rattle.jpg_markers.proofs.segments.SegmentReader.whole.Goals as goal

pub returns-then-not-allows-clause-goes : goal.returns-then-not-allows-clause-goes
returns-then-not-allows-clause-goes c = λ bytes before going w.
    let r = reading_of c.args.self.now in
    whole_fault r bytes before w
    (λ b h. subst (λ (xs : List ℕ). kept_rule r.limits b r.code xs ≡ Some MarkersTooLarge) c.as_slice.ensures.value (c.allows.ensures.none c.if-not-allows.true r.limits b h))

pub returns-clause-goes : goal.returns-clause-goes
returns-clause-goes c = λ bytes before going w.
    let r = reading_of c.args.self.now in
    whole_passes r bytes before c.note.new.self going w
    (λ b h. subst (λ (xs : List ℕ). (kept_rule r.limits b r.code xs ≡ None) × HasSeen r.limits c.note.new.self ((r.code, xs) ∷ b)) c.as_slice-2.ensures.value (c.note.ensures r.limits b h))
