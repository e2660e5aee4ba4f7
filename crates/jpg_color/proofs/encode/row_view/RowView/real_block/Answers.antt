use Rattle.std.proofs.Common.{◌≡◌, ◌<◌, ◌*◌, ◌-◌, ◌∙◌, ap, [], length, slice_index_or, sym, subst, arith}
use Rattle.jpg_spec.specs.Geometry.{blocks_across, component_at}
use Rattle.jpg_spec_image.specs.ForwardDct.{forward_dct, quantised_block}
use Rattle.jpg_color.specs.EncodeBlocks.{plane_at}
use Rattle.jpg_color.proofs.EncodedViews.{any_default}
use Rattle.jpg_color.proofs.RowsEncoded.{block_there, window_after, window_before}
use Rattle.jpg_color.proofs.encode.row_view.RowView.real_block.Goals as goal

pub returns-then-from-start : goal.returns-then-from-start
returns-then-from-start c =
    let v = c.args.self.now in
    let start : c.from.result * c.from-2.result ≡ (component_at v.frame.now c.args.component).v * v.top = ap (λ n. n * c.from-2.result) (c.from.ensures ∙ ap (λ k. k.v) c.component.ensures.value) ∙ ap (λ n. (component_at v.frame.now c.args.component).v * n) c.from-2.ensures in
    c.zero.ensures ∙ sym (window_before v.frame.now v.planes.now v.first.now v.others.now v.top c.args.component c.args.x c.args.y (omega (arith, c.if-from-start.true, start, c.from-3.ensures)))

pub returns-then-y-rows : goal.returns-then-y-rows
returns-then-y-rows c =
    let v = c.args.self.now in
    let start : c.from.result * c.from-2.result ≡ (component_at v.frame.now c.args.component).v * v.top = ap (λ n. n * c.from-2.result) (c.from.ensures ∙ ap (λ k. k.v) c.component.ensures.value) ∙ ap (λ n. (component_at v.frame.now c.args.component).v * n) c.from-2.ensures in
    let long : length c.rows-rows.result.now ≡ length (plane_at v.planes.now c.args.component) = ap length c.rows-rows.ensures in
    c.zero-then-y-rows.ensures ∙ sym (window_after v.frame.now v.planes.now v.first.now v.others.now v.top c.args.component c.args.x c.args.y
    (omega (arith, c.if-from-start.false, start, c.from-3.ensures)) (omega (arith, c.if-y-rows.true, start, c.from-4.ensures, long)))

pub block-samples-requires : goal.block-samples-requires
block-samples-requires c =
    let v = c.args.self.now in
    let i = c.args.component in
    let rows = plane_at v.planes.now i in
    let k = c.from-4.result - c.from.result * c.from-2.result in
    let long : length c.rows-rows.result.now ≡ length rows = ap length c.rows-rows.ensures in
    let there : k < length rows = omega (arith, c.if-y-rows.false, long) in
    let at : c.index-rows-y.result ≡ slice_index_or rows k [] = c.index-rows-y.is ∙ ap (λ rs. slice_index_or rs k c.index-rows-y.result) c.rows-rows.ensures ∙ any_default rows k c.index-rows-y.result [] there in
    let wide : length c.index-rows-y.result ≡ blocks_across v.frame.now (component_at v.frame.now i) = ap length at ∙ (v.rows i c.requires.component k there).long in
    omega (arith, wide, c.requires.across)

pub returns : goal.returns
returns c =
    let v = c.args.self.now in
    let i = c.args.component in
    let rows = plane_at v.planes.now i in
    let k = c.from-4.result - c.from.result * c.from-2.result in
    let start : c.from.result * c.from-2.result ≡ (component_at v.frame.now i).v * v.top = ap (λ n. n * c.from-2.result) (c.from.ensures ∙ ap (λ d. d.v) c.component.ensures.value) ∙ ap (λ n. (component_at v.frame.now c.args.component).v * n) c.from-2.ensures in
    let long : length c.rows-rows.result.now ≡ length rows = ap length c.rows-rows.ensures in
    let there : k < length rows = omega (arith, c.if-y-rows.false, long) in
    let same : k ≡ c.args.y - (component_at v.frame.now i).v * v.top = ap (λ n. n - c.from.result * c.from-2.result) c.from-4.ensures ∙ ap (λ n. c.args.y - n) start in
    let at : c.index-rows-y.result ≡ slice_index_or rows k [] = c.index-rows-y.is ∙ ap (λ rs. slice_index_or rs k c.index-rows-y.result) c.rows-rows.ensures ∙ any_default rows k c.index-rows-y.result [] there in
    block_there v.frame.now v.planes.now v.first.now v.others.now v.top i c.args.x c.args.y c.index-rows-y.result c.divisors.result.now _
    (omega (arith, c.if-from-start.false, start, c.from-3.ensures)) (subst (λ n. n < length rows) same there) (at ∙ ap (λ n. slice_index_or rows n []) same) c.divisors.ensures
    (c.of.ensures ∙ c.block.ensures ∙ ap (λ t. quantised_block c.divisors.result.now (forward_dct t)) c.block-samples.ensures)
