use Rattle.std.proofs.Common.{ℕ, ◌<◌, List, length, ap, ◌∙◌}
use Rattle.jpg_spec.specs.Geometry.{div_up}
use Rattle.jpg_spec.specs.Lists.{below, any_of}
use Rattle.jpg_spec_image.specs.Upsampling.{has_far_rows}
use Rattle.jpg_color.specs.PartState.{PartState}
use Rattle.jpg_color.specs.StripsState.{coloured_length, part_at}
use Rattle.jpg_color.proofs.StripsFresh.{are_new, display_is, fresh, is_fresh, parts_there, showable, sizes_told}
use Rattle.jpg_color.proofs.decode.strips.Strips.new.Goals as goal

pub new_parts-requires-clause-there : goal.new_parts-requires-clause-there
new_parts-requires-clause-there c =
    parts_there c.args.head.now c.args.gray c.args.smooth c.needed_parts-count.result (showable c.args.head.now c.args.gray c.args.smooth c.requires.head c.requires.admitted) c.needed_parts-count.ensures

pub new_parts-requires-clause-sizes : goal.new_parts-requires-clause-sizes
new_parts-requires-clause-sizes c =
    λ (i : ℕ) (h : i < c.needed_parts-count.result).
    sizes_told c.args.head.now c.args.gray c.args.smooth c.needed_parts-count.result i (showable c.args.head.now c.args.gray c.args.smooth c.requires.head c.requires.admitted) c.needed_parts-count.ensures h

pub invariant_of-result : goal.invariant_of-result
invariant_of-result c =
    fresh
    (are_new c.args.head.now (display_is c.args.head.now c.copy-frame.ensures (c.copied.ensures ∙ c.as_slice.ensures.value))
    (showable c.args.head.now c.args.gray c.args.smooth c.requires.head c.requires.admitted) c.needed_parts-count.ensures c.in_ok-parts.ensures)
    (c.in_ok-last.ensures ∙ c.row_bytes.ensures.value ∙ ap (coloured_length c.args.head.now.colour c.args.gray) c.width.ensures)
    c.mcu_lines-lines.ensures.value (let bounds = c.mcu_lines-lines.ensures.bounds in bounds.1)
    (c.mcu_rows-all.ensures ∙ ap (λ n. div_up n c.mcu_lines-lines.result) c.height.ensures)
    (c.is_any_waiting-waits.ensures ∙ ap (λ (ps : List PartState). any_of (λ i. has_far_rows (part_at ps i).stretch) (below (length ps))) c.deref.ensures.value)

pub returns : goal.returns
returns c =
    let same = display_is c.args.head.now c.copy-frame.ensures (c.copied.ensures ∙ c.as_slice.ensures.value) in
    is_fresh c.in_ok-last.last.items same
    (are_new c.args.head.now same (showable c.args.head.now c.args.gray c.args.smooth c.requires.head c.requires.admitted) c.needed_parts-count.ensures c.in_ok-parts.ensures)
