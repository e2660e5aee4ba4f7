use Rattle.std.proofs.Common.{◌≡◌, ◌⊎◌, inl, inr, arith}
use Rattle.jpg_markers.proofs.Continuing.{filled_within, front_spelled, front_within, none_marked, none_sized, rest_sized}
use Rattle.jpg_markers.proofs.whole.segment_at.Goals as goal
use Rattle.jpg_markers.proofs.whole.segment_at.Goals.{then-fill-eq0-via-then-fill-eq0, then-fill-eq0-via-else-fill-eq0+then-code-eq0}

pub slice_bounds-sized_at-count : goal.slice_bounds-sized_at-count
slice_bounds-sized_at-count c = let h = filled_within c.args.bytes.now in omega (arith, h, c.fill_length-fill.ensures.filled)

pub slice_bounds-sized_at-start : goal.slice_bounds-sized_at-start
slice_bounds-sized_at-start c = let h = filled_within c.args.bytes.now in omega (arith, h, c.fill_length-fill.ensures.filled)

pub returns-clause-spelled : goal.returns-clause-spelled
returns-clause-spelled c =
    front_spelled c.args.bytes.now c.fill_length-fill.result c.in-Some.code c.in-Some.contents.now c.fill_length-fill.ensures.filled c.if-fill-eq0.false c.if-code-eq0.false
    (rest_sized c.args.bytes.now c.fill_length-fill.result c.in-Some.code c.in-Some.contents.now c.in-Some.ensures.sized)

pub returns-clause-within : goal.returns-clause-within
returns-clause-within c =
    let few = front_within c.args.bytes.now c.fill_length-fill.result c.in-Some.code c.in-Some.contents.now c.fill_length-fill.ensures.filled
    (rest_sized c.args.bytes.now c.fill_length-fill.result c.in-Some.code c.in-Some.contents.now c.in-Some.ensures.sized) in
    (omega arith, few)

pub returns-in_default-clause-none : goal.returns-in_default-clause-none
returns-in_default-clause-none c = none_sized c.args.bytes.now c.fill_length-fill.result c.fill_length-fill.ensures.filled c.in_default.ensures.none

pub returns-then-fill-eq0-clause-none : goal.returns-then-fill-eq0-clause-none
returns-then-fill-eq0-clause-none c =
    let fill = c.fill_length-fill.result in let code = c.in-Some.code in
    let none : (fill ≡ 0) ⊎ (code ≡ 0) =
    elim c.then-fill-eq0.branch [ then-fill-eq0-via-then-fill-eq0 w ↦ inl w.if-fill-eq0.true | then-fill-eq0-via-else-fill-eq0+then-code-eq0 w ↦ inr w.if-code-eq0.true ] in
    none_marked c.args.bytes.now fill code c.in-Some.contents.now c.fill_length-fill.ensures.filled (rest_sized c.args.bytes.now fill code c.in-Some.contents.now c.in-Some.ensures.sized) none
