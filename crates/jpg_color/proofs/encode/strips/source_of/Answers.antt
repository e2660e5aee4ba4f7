use Rattle.std.proofs.Common.{◌≡◌, ◌∙◌, ◌*◌, ◌/◌, refl, sym, subst, arith, ap}
use Rattle.jpg_spec.specs.Geometry.{blocks_across, div_up, h_max, v_max, component_at}
use Rattle.jpg_spec.specs.declared.frame.Component.{Component}
use Rattle.jpg_color.specs.EncodeBlocks.{strip_image}
use Rattle.jpg_color.specs.PlaneRows.{HasPlaneRows}
use Rattle.jpg_color.proofs.EncodeSources.{across_most, down_most, ratio_few, ratio_some, row_few}
use Rattle.jpg_color.proofs.StripRows.{source_rows}
use Rattle.jpg_color.proofs.encode.strips.source_of.Goals as goal

pub returns-clause-is : goal.returns-clause-is
returns-clause-is c =
    let strip = c.args.strip.now in
    let f = strip.frame.now in
    let part = c.args.part in
    let i = part.component in
    let k = c.component-component in
    let h : k.result.h ≡ (component_at f i).h = ap (λ (d : Component). d.h) k.ensures.value in
    let v : k.result.v ≡ (component_at f i).v = ap (λ (d : Component). d.v) k.ensures.value in
    let across = across_most f i c.requires.part.there in
    let down = down_most f i c.requires.part.there in
    let hm : c.h_max.result ≡ h_max f = c.h_max.ensures.value in
    let vm : c.v_max-v_max.result ≡ v_max f = c.v_max-v_max.ensures.value in
    let wide : c.blocks-2.result.wide ≡ blocks_across f (component_at f i) = ap (λ g. g.wide) c.blocks-2.ensures.value in
    let ratio : c.h_max.result / k.result.h ≡ h_max f / (component_at f i).h = ap (λ n. n / k.result.h) hm ∙ ap (λ n. h_max f / n) h in
    let ratio_down : c.v_max-v_max.result / k.result.v ≡ v_max f / (component_at f i).v = ap (λ n. n / k.result.v) vm ∙ ap (λ n. v_max f / n) v in
    let made : c.rows_made.result ≡ div_up strip.info.now.height (v_max f) * (component_at f i).v =
    c.rows_made.ensures.value ∙ ap (λ n. div_up strip.info.now.height n * k.result.v) c.v_max-v_max.ensures.value ∙ ap (λ n. div_up strip.info.now.height (v_max f) * n) v in
    record {
      there = c.requires.part.there;
      plane = record {
        image = c.requires.strip.image;
        component = omega (arith, c.requires.part.there, c.requires.strip.count);
        across = (ratio_some c.h_max.result k.result.h k.ensures.factors.h_low (omega (arith, h, hm, across)), ratio_few c.h_max.result k.result.h c.h_max.ensures.high);
        down = (ratio_some c.v_max-v_max.result k.result.v k.ensures.factors.v_low (omega (arith, v, vm, down)), ratio_few c.v_max-v_max.result k.result.v c.v_max-v_max.ensures.high);
      };
      window = record {
        lines = omega (arith, c.v_max-v_max.ensures.high);
        at = omega arith;
        long = c.requires.part.long ∙ ap (λ n. 8 * v_max f * n) (sym c.requires.strip.wide) ∙ ap (λ n. 8 * n * strip.info.now.width) (sym vm);
        rows = subst (λ n. HasPlaneRows strip.info.now strip.samples.now i (8 * n) 0 part.rows.now) (sym vm) c.requires.part.rows;
      };
      lines = ap (λ n. 8 * n) vm;
      at = refl;
      factor = omega (arith, k.ensures.factors.v_low, v);
      whole = ap (λ n. n * (component_at f i).v) ratio_down ∙ c.requires.strip.whole i c.requires.part.there;
      some = c.rows_made.ensures.few;
      wide = ap (λ n. 8 * n) wide;
      few = omega (arith, wide, row_few f.width (component_at f i).h (h_max f) c.checked.ensures.width_high (omega (arith, hm, c.h_max.ensures.low)) across);
      count = v;
      made = made;
      rows = source_rows f (strip_image strip) i (c.h_max.result / k.result.h) (c.v_max-v_max.result / k.result.v) c.rows_made.result ratio ratio_down made;
    }
