use Rattle.std.proofs.Common.{◌∙◌, ◌<◌, List, length, false, true, refl, sym, ap, subst, All}
use Rattle.jpg_spec.specs.Segments.{ScanHead}
use Rattle.jpg_spec.specs.declared.frame.ScanPart.{ScanPart}
use Rattle.jpg_file.specs.Read.SegmentState.{segments_view}
use Rattle.jpg_file.proofs.Headers.HeaderTaken.{in_order, small_parts}
use Rattle.jpg_file.proofs.read.scan_start.judge_head.Goals as goal

pub fault-requires : goal.fault-requires
fault-requires c =
    let f = c.args.frame.now in
    small_parts f c.in_ok-head.head (c.accepted_heads_are_of_their_frames.ensures f c.args.contents.now c.in_ok-head.head (sym c.in_ok-head.ensures)) c.checked.ensures.count_high

pub lacks_table-requires : goal.lacks_table-requires
lacks_table-requires c = (c.accepted_heads_are_of_their_frames.ensures c.args.frame.now c.args.contents.now c.in_ok-head.head (sym c.in_ok-head.ensures)).known

pub returns-then-lacks_table : goal.returns-then-lacks_table
returns-then-lacks_table c = λ limits before e holds k.
    let is_head = c.accepted_heads_are_of_their_frames.ensures c.args.frame.now c.args.contents.now c.in_ok-head.head (sym c.in_ok-head.ensures) in
    in_order limits before c.args.contents.now c.args.frame.now c.in_ok-head.head c.args.begun.now (segments_view c.args.held.now) true _ (c.in_ok-head.head).parts e (sym c.in_ok-head.ensures) is_head c.checked.ensures.count_high k holds c.in_default.ensures c.if-lacks_table.ensures refl refl

pub are_same-requires : goal.are_same-requires
are_same-requires c =
    subst (λ (l : List ScanPart). All (λ (p : ScanPart). p.component < length c.args.frame.now.components) l) (sym (c.as_slice.ensures.value ∙ ap (λ (h : ScanHead). h.parts) c.head.view_is))
    (c.accepted_heads_are_of_their_frames.ensures c.args.frame.now c.args.contents.now c.in_ok-head.head (sym c.in_ok-head.ensures)).known

pub returns-then-not-are_same : goal.returns-then-not-are_same
returns-then-not-are_same c = λ limits before e holds k.
    let is_head = c.accepted_heads_are_of_their_frames.ensures c.args.frame.now c.args.contents.now c.in_ok-head.head (sym c.in_ok-head.ensures) in
    in_order limits before c.args.contents.now c.args.frame.now c.in_ok-head.head c.args.begun.now (segments_view c.args.held.now) false false c.as_slice.result.now e (sym c.in_ok-head.ensures) is_head c.checked.ensures.count_high k holds c.in_default.ensures c.if-lacks_table.ensures
    (c.as_slice.ensures.value ∙ ap (λ (h : ScanHead). h.parts) c.head.view_is) c.if-not-are_same.ensures

pub returns : goal.returns
returns c = λ limits before e holds k.
    let is_head = c.accepted_heads_are_of_their_frames.ensures c.args.frame.now c.args.contents.now c.in_ok-head.head (sym c.in_ok-head.ensures) in (
      in_order limits before c.args.contents.now c.args.frame.now c.in_ok-head.head c.args.begun.now (segments_view c.args.held.now) false true c.as_slice.result.now e (sym c.in_ok-head.ensures) is_head c.checked.ensures.count_high k holds c.in_default.ensures c.if-lacks_table.ensures
          (c.as_slice.ensures.value ∙ ap (λ (h : ScanHead). h.parts) c.head.view_is) c.if-not-are_same.ensures,
      sym c.in_ok-head.ensures,
      is_head,
      sym c.if-lacks_table.ensures,
    )
