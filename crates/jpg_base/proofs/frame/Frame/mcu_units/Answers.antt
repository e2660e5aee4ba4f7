use Rattle.std.proofs.Common.{◌≡◌, ◌<◌, length, sym, ap, ◌∙◌}
use Rattle.jpg_spec.specs.Segments.{ScanHead}
use Rattle.jpg_base.proofs.ScanPlaces.{all_parts}
use Rattle.jpg_base.proofs.frame.Frame.mcu_units.Goals as goal

pub factor_sum-requires-clause-there : goal.factor_sum-requires-clause-there
factor_sum-requires-clause-there c =
    let parts : c.args.head.now.parts ≡ c.as_slice.result.now = sym (c.as_slice.ensures.value ∙ ap (λ (h : ScanHead). h.parts) c.head.view_is) in
    all_parts (λ i. i < length c.args.self.now.components) c.as_slice.result.now (rw parts at c.requires.there)
