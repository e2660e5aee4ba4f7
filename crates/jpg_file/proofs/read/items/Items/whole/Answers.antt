use Rattle.std.proofs.Common.{refl, sym, inl, inr, subst, ap, ◌∙◌}
use Rattle.jpg_file.specs.Read.SegmentState.{HoldsSegment, SegmentView, segments_view, is_wanted}
use Rattle.jpg_file.specs.declared.read.segment_state.SegmentTaken.TheVariants as took
use Rattle.jpg_spec.specs.Markers.{is_kept_if}
use Rattle.jpg_spec.proofs.Basics.Common.{clash}
use Rattle.jpg_file.proofs.Files.FileSteps.{none_there, one_left}
use Rattle.jpg_file.proofs.read.items.Items.whole.Goals.{then-segment-via-then-segment, then-segment-via-else-segment+then-not-allows}
use Rattle.jpg_file.proofs.Files.ItemBytes.{nothing_passes, whole_passes}
use Rattle.jpg_file.proofs.read.items.Items.whole.Goals as goal
use Rattle.jpg_file.specs.Read.Items.{limits_in}
use Rattle.jpg_spec.specs.declared.frame.Limits.{Limits}

pub returns-in-Done-clause-after : goal.returns-in-Done-clause-after
returns-in-Done-clause-after c =
    let s = c.in-Some.segment in
    let held = subst (λ (l : Limits). HoldsSegment (segments_view c.args.self.now.held) l s.code s.contents.now took.Done (segments_view c.take.new.self)) c.limits-limits.ensures.is c.in-Done.ensures.held in
    whole_passes c.args.self.now _ c.args.bytes.now s.code s.contents.now s.length c.pass.ensures.passed c.in-Some.ensures.spelled c.in-Some.ensures.within.1 c.if-segment.false held

pub returns-in-Fault-clause-after : goal.returns-in-Fault-clause-after
returns-in-Fault-clause-after c = nothing_passes c.args.self.now _ c.args.bytes.now refl c.in-Fault.ensures.keeps.same

pub returns-in-NoMemory-clause-after : goal.returns-in-NoMemory-clause-after
returns-in-NoMemory-clause-after c = nothing_passes c.args.self.now _ c.args.bytes.now refl c.in-NoMemory.ensures.keeps.same

pub returns-in_default-clause-none : goal.returns-in_default-clause-none
returns-in_default-clause-none c = λ zero. none_there c.args.self.now c.args.bytes.now c.in_default.ensures.none

pub returns-then-segment-clause-none : goal.returns-then-segment-clause-none
returns-then-segment-clause-none c = λ zero.
    let s = c.in-Some.segment in
    one_left c.args.self.now c.args.bytes.now s.code s.contents.now s.length c.in-Some.ensures.spelled (λ going may.
    elim c.then-segment.branch [ then-segment-via-then-segment w ↦ inl w.if-segment.true | then-segment-via-else-segment+then-not-allows w ↦ absurd (clash w.allows.result (w.allows.ensures.always going may) w.if-not-allows.true) ])

pub returns-in-Fault-clause-none : goal.returns-in-Fault-clause-none
returns-in-Fault-clause-none c = λ zero.
    let s = c.in-Some.segment in
    let fault = c.in-Fault.field-0 in
    let view = segments_view c.take.new.self in
    let held = subst (λ (l : Limits). HoldsSegment (segments_view c.args.self.now.held) l s.code s.contents.now (took.Fault fault) view) c.limits-limits.ensures.is c.in-Fault.ensures.held in
    let broken = subst (λ (v : SegmentView). HoldsSegment v (limits_in c.args.self.now) s.code s.contents.now (took.Fault fault) view) (sym c.in-Fault.ensures.keeps.same) held in
    one_left (record c.args.self.now { held = c.take.new.self }) c.args.bytes.now s.code s.contents.now s.length c.in-Some.ensures.spelled (λ going may. inr (inl (fault, broken)))

pub returns-in-NoMemory-clause-none : goal.returns-in-NoMemory-clause-none
returns-in-NoMemory-clause-none c = λ zero.
    let s = c.in-Some.segment in
    let keep = c.in-NoMemory.ensures.keeps.asks refl in
    one_left (record c.args.self.now { held = c.take.new.self }) c.args.bytes.now s.code s.contents.now s.length c.in-Some.ensures.spelled
    (λ going may. inr (inr (ap (λ b. is_kept_if b s.code s.contents.now) c.in-NoMemory.ensures.keeps.scanned ∙ keep.0, ap (λ k. is_wanted k (s.code, s.contents.now)) c.in-NoMemory.ensures.keeps.keeping ∙ keep.1)))
