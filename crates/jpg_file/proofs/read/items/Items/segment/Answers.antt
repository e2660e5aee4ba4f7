use Rattle.std.proofs.Common.{◌≡◌, ◌∙◌, List, ℕ, None, refl, sym, subst}
use Rattle.jpg_spec.specs.Items.{segments_of}
use Rattle.jpg_spec.specs.Markers.{kept_rule}
use Rattle.jpg_file.specs.Read.SegmentState.{HoldsSegment, TakesSegment, segments_view}
use Rattle.jpg_file.specs.declared.read.segment_state.SegmentTaken.TheVariants as took
use Rattle.jpg_file.specs.declared.read.items.Items.{Items}
use Rattle.jpg_markers.specs.Reading.{reading_of}
use Rattle.jpg_file.proofs.Files.ItemBytes.{segment_taken, segment_fault}
use Rattle.jpg_file.proofs.read.items.Items.segment.Goals as goal
use Rattle.jpg_spec.specs.declared.frame.Limits.{Limits}

pub returns-in-Done-clause-after : goal.returns-in-Done-clause-after
returns-in-Done-clause-after c = λ limits bytes items blocks k.
    let w = c.args.self.now in
    let r = reading_of w.segments in
    let before = segments_of items in
    let new : Items = record w { held = c.take.new.self } in
    let e = sym c.code-code.ensures in
    let f = sym c.contents.ensures in
    let kept = subst (λ (xs : List ℕ). kept_rule limits before c.code-code.result xs ≡ None) f (subst (λ (n : ℕ). kept_rule limits before n r.contents ≡ None) e k.kept) in
    let held = subst (λ (l : Limits). HoldsSegment (segments_view w.held) l c.code-code.result c.contents.result.now took.Done (segments_view new.held)) (c.limits-limits.ensures.is ∙ k.bounded) c.in-Done.ensures.held in
    let t = held before k.holds kept in
    let t1 = subst (λ (n : ℕ). TakesSegment limits before n c.contents.result.now took.Done (segments_view new.held)) (sym e) t in
    let t2 = subst (λ (xs : List ℕ). TakesSegment limits before r.code xs took.Done (segments_view new.held)) (sym f) t1 in
    segment_taken limits bytes items blocks w k new (λ h. c.if-code.false (sym e ∙ h)) t2.0 refl t2.1

pub returns-in-Fault-clause-after : goal.returns-in-Fault-clause-after
returns-in-Fault-clause-after c = λ limits bytes items blocks k.
    let w = c.args.self.now in
    let r = reading_of w.segments in
    let before = segments_of items in
    let e = sym c.code-code.ensures in
    let f = sym c.contents.ensures in
    let kept = subst (λ (xs : List ℕ). kept_rule limits before c.code-code.result xs ≡ None) f (subst (λ (n : ℕ). kept_rule limits before n r.contents ≡ None) e k.kept) in
    let held = subst (λ (l : Limits). HoldsSegment (segments_view w.held) l c.code-code.result c.contents.result.now (took.Fault c.in-Fault.fault) (segments_view c.take.new.self)) (c.limits-limits.ensures.is ∙ k.bounded) c.in-Fault.ensures.held in
    let t = held before k.holds kept in
    let t1 = subst (λ (n : ℕ). TakesSegment limits before n c.contents.result.now (took.Fault c.in-Fault.fault) (segments_view c.take.new.self)) (sym e) t in
    let t2 = subst (λ (xs : List ℕ). TakesSegment limits before r.code xs (took.Fault c.in-Fault.fault) (segments_view c.take.new.self)) (sym f) t1 in
    (segment_fault limits bytes items blocks w k c.in-Fault.fault t2, c.taken.ensures)
