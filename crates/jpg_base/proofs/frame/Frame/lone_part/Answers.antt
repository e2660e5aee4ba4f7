use Rattle.std.proofs.Common.{◌≤◌, sym, arith, subst, ◌^◌}
use Rattle.std.proofs.lemmas.List.Elements.{All-get_or}
use Rattle.jpg_spec.specs.Geometry.{no_component, component_at, h_max, v_max}
use Rattle.jpg_spec.specs.FrameHeader.{HasFactors}
use Rattle.jpg_spec.specs.declared.frame.Grid.{Grid}
use Rattle.jpg_base.proofs.ScanPlaces.{few_blocks}
use Rattle.jpg_base.proofs.frame.Frame.lone_part.Goals as goal

pub returns-clause-wide : goal.returns-clause-wide
returns-clause-wide c =
    let f = c.args.self.now in
    let k = c.checked.ensures in
    let x = All-get_or HasFactors f.components c.args.i no_component c.requires k.factors in
    (c.blocks-grid.ensures.some.0, subst (λ (g : Grid). g.wide ≤ 2 ^ 20) (sym c.blocks-grid.ensures.value) (few_blocks f.width (component_at f c.args.i).h (h_max f) k.width_high x.h_high (omega (arith, c.h_max.ensures.value, c.h_max.ensures.high))))

pub returns-clause-high : goal.returns-clause-high
returns-clause-high c =
    let f = c.args.self.now in
    let k = c.checked.ensures in
    let x = All-get_or HasFactors f.components c.args.i no_component c.requires k.factors in
    (c.blocks-grid.ensures.some.1, subst (λ (g : Grid). g.high ≤ 2 ^ 20) (sym c.blocks-grid.ensures.value) (few_blocks f.height (component_at f c.args.i).v (v_max f) k.height_high x.v_high (omega (arith, c.v_max.ensures.value, c.v_max.ensures.high))))
