use Rattle.std.proofs.Common.{◌*◌, ◌∙◌, ap}
use Rattle.jpg_spec.specs.Segments.{head_components}
use Rattle.jpg_spec.specs.Geometry.{scan_mcus_across}
use Rattle.jpg_color.proofs.RowsEncoded.{begins_rows}
use Rattle.jpg_color.proofs.encode.row_encoder.RowEncoder.new.Goals as goal

pub returns-clause-begins : goal.returns-clause-begins
returns-clause-begins c = λ info a has.
    let wide = c.from.ensures ∙ c.scan_mcus.ensures.wide in
    let each = c.from-2.ensures ∙ c.mcu_units.ensures.value in
    begins_rows info a _ _ c.frame-frame.result.now c.frame-frame.ensures has c.requires (ap (λ n. n * c.from-2.result) wide ∙ ap (λ n. scan_mcus_across c.frame-frame.result.now (head_components c.args.head.now) * n) each) c.divisors-first.ensures c.divisors-others.ensures c.new-scan.ensures.keeps c.new-scan.ensures.left
