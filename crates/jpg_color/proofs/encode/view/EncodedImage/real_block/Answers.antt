use Rattle.std.proofs.Common.{◌≡◌, ◌<◌, ◌∙◌, ap, [], length, slice_index_or, arith}
use Rattle.jpg_spec.specs.Geometry.{blocks_across, component_at}
use Rattle.jpg_spec_image.specs.ForwardDct.{forward_dct, quantised_block}
use Rattle.jpg_color.specs.EncodeBlocks.{plane_at}
use Rattle.jpg_color.proofs.EncodedViews.{any_default, block_is}
use Rattle.jpg_color.proofs.encode.view.EncodedImage.real_block.Goals as goal

pub block-samples-requires : goal.block-samples-requires
block-samples-requires c =
    let v = c.args.self.now in
    let i = c.args.component in
    let rows = v.rows i c.requires.component in
    let there : c.args.y < length (plane_at v.planes i) = omega (arith, rows.0, c.requires.down) in
    let at : c.index-rows-y.result ≡ slice_index_or (plane_at v.planes i) c.args.y [] =
    c.index-rows-y.is ∙ ap (λ rs. slice_index_or rs c.args.y c.index-rows-y.result) c.rows.ensures ∙ any_default (plane_at v.planes i) c.args.y c.index-rows-y.result [] there in
    let long : length c.index-rows-y.result ≡ blocks_across v.frame (component_at v.frame i) = ap length at ∙ (rows.1 c.args.y there).long in
    omega (arith, long, c.requires.across)

pub returns : goal.returns
returns c =
    let v = c.args.self.now in
    let i = c.args.component in
    let rows = v.rows i c.requires.component in
    let there : c.args.y < length (plane_at v.planes i) = omega (arith, rows.0, c.requires.down) in
    let at : c.index-rows-y.result ≡ slice_index_or (plane_at v.planes i) c.args.y [] =
    c.index-rows-y.is ∙ ap (λ rs. slice_index_or rs c.args.y c.index-rows-y.result) c.rows.ensures ∙ any_default (plane_at v.planes i) c.args.y c.index-rows-y.result [] there in
    block_is v.planes v.first v.others i c.args.x c.args.y c.index-rows-y.result c.divisors.result.now _ at c.divisors.ensures
    (c.of.ensures ∙ c.block.ensures ∙ ap (λ t. quantised_block c.divisors.result.now (forward_dct t)) c.block-samples.ensures)
