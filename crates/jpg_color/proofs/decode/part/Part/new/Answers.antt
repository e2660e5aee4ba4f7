use Rattle.std.proofs.Common.{◌≡◌, ◌/◌, ◌*◌, ◌∙◌, ap, arith}
use Rattle.jpg_spec.specs.Geometry.{div_up}
use Rattle.jpg_spec_image.specs.Strips.{block_rows}
use Rattle.jpg_color.proofs.PartNumbers.{AreNumbers, few_bytes, meant, measured, new_part, parsed_quants, room_is, rows_is, stretch_is, wide_in}
use Rattle.jpg_color.proofs.decode.part.Part.new.Goals as goal
use Rattle.jpg_color.proofs.decode.part.Part.new.Goals.{After-rows_of-block_rows}

numbers : (c : After-rows_of-block_rows) → AreNumbers c.args.head.now c.args.i c.component-of.result c.samples-wide.result c.samples-high.result
    (c.h_max-2.result / c.component-of.result.h) (c.v_max-2.result / c.component-of.result.v)
numbers c =
    let f = c.args.head.now.frame in
    let of = c.component-of.result in
    record {
      there = c.requires.there;
      component = c.component-of.ensures.value;
      is_wide = c.samples-wide.ensures ∙ ap (λ n. div_up (n * of.h) c.h_max.result) c.width.ensures ∙ ap (λ n. div_up (f.width * of.h) n) c.h_max.ensures.value;
      is_high = c.samples-high.ensures ∙ ap (λ n. div_up (n * of.v) c.v_max.result) c.height.ensures ∙ ap (λ n. div_up (f.height * of.v) n) c.v_max.ensures.value;
      is_across = ap (λ n. n / of.h) c.h_max-2.ensures.value;
      is_down = ap (λ n. n / of.v) c.v_max-2.ensures.value;
    }

rows : (c : After-rows_of-block_rows) → c.rows_of-block_rows.result ≡ block_rows (meant c.args.head.now) c.args.i
rows c =
    rows_is c.args.head.now c.args.i c.component-of.result c.count.result c.rows_of-block_rows.result c.requires.there c.component-of.ensures.value c.count.ensures.value
    c.rows_of-block_rows.ensures

pub new-requires-clause-wide : goal.new-requires-clause-wide
new-requires-clause-wide c = wide_in _ _ (stretch_is c.args.smooth (numbers (goal.at.new-requires-clause-wide c).After-rows_of-block_rows)) _ c.requires.sizes

pub bytes-requires : goal.bytes-requires
bytes-requires c =
    let few = few_bytes _ _ (stretch_is c.args.smooth (numbers (goal.at.bytes-requires c).After-rows_of-block_rows)) _ c.requires.sizes in
    omega (arith, few)

pub invariant_of-result : goal.invariant_of-result
invariant_of-result c =
    measured c.args.i _ _ c.rows_of-block_rows.result _ c.index-deref-i.result c.in_ok-rows.rows c.in_ok-line.line.items
    (stretch_is c.args.smooth (numbers (goal.at.invariant_of-result c).After-rows_of-block_rows))
    (rows (goal.at.invariant_of-result c).After-rows_of-block_rows)
    c.requires.sizes (room_is _ c.from.ensures c.in_ok-rows.ensures) c.in_ok-line.ensures

pub returns : goal.returns
returns c =
    new_part c.args.head.now c.args.smooth c.args.i _ c.rows_of-block_rows.result c.index-deref-i.result c.in_ok-rows.rows c.in_ok-line.line.items c.requires.there
    (stretch_is c.args.smooth (numbers (goal.at.returns c).After-rows_of-block_rows))
    (rows (goal.at.returns c).After-rows_of-block_rows)
    (parsed_quants c.args.head.now c.args.i c.deref.result.now c.index-deref-i.result c.requires.there c.requires.head.tables c.deref.ensures.0 c.index-deref-i.is)
    (room_is _ c.from.ensures c.in_ok-rows.ensures)
