use Rattle.std.proofs.Common.{◌+◌, Bool, take, drop, ◌||◌, sym, ap, ◌∙◌}
use Rattle.jpg_spec.specs.Lists.{any_of}
use Rattle.jpg_spec.specs.Geometry.{h_max, v_max}
use Rattle.jpg_spec_image.specs.Pixels.{is_fractional}
use Rattle.jpg_color.specs.Shown.{factors_of}
use Rattle.jpg_color.proofs.Refused.{next_factors}
use Rattle.jpg_color.proofs.decode.kinds.has_partial.Goals as goal

pub returns-then-is_partial : goal.returns-then-is_partial
returns-then-is_partial c =
    let f = c.args.frame.now in
    sym (c.loop-i.invariant ∙ next_factors f c.loop-i.i c.args.count c.is_partial.result c.loop-i-test.true c.requires c.is_partial.ensures
    ∙ ap (λ (b : Bool). b || any_of (is_fractional (h_max f) (v_max f)) (drop (c.loop-i.i + 1) (take c.args.count (factors_of f)))) c.if-is_partial.true)

pub loop-i-preserved : goal.loop-i-preserved
loop-i-preserved c =
    let f = c.args.frame.now in
    c.loop-i.invariant ∙ next_factors f c.loop-i.i c.args.count c.is_partial.result c.loop-i-test.true c.requires c.is_partial.ensures
    ∙ ap (λ (b : Bool). b || any_of (is_fractional (h_max f) (v_max f)) (drop (c.loop-i.i + 1) (take c.args.count (factors_of f)))) c.if-is_partial.false
