use Rattle.std.proofs.Common.{◌≤◌, ◌*◌, ◌∙◌, ap, arith}
use Rattle.std.proofs.lemmas.Nat.{mul-le}
use Rattle.jpg_spec.specs.Geometry.{scan_mcus_across}
use Rattle.jpg_spec.specs.Segments.{head_components}
use Rattle.jpg_seq.specs.Reader.{row_units}
use Rattle.jpg_transform.proofs.row_mover.units_moved.Goals as goal

pub overflow_mul-result : goal.overflow_mul-result
overflow_mul-result c =
    let wide : c.scan_mcus.result.wide ≤ 1048576 = c.scan_mcus.ensures.few.0 in
    let row = mul-le c.from.result c.from-2.result 1048576 64 (omega (arith, c.from.ensures, wide)) (omega (arith, c.from-2.ensures, c.mcu_units.ensures.few)) in
    let all = mul-le (c.from.result * c.from-2.result) c.from-3.result (1048576 * 64) 4 row (omega (arith, c.from-3.ensures, c.rows_of_output.ensures.few)) in
    omega (arith, all)

pub returns : goal.returns
returns c =
    let ids = head_components c.args.head.now in
    ap (λ n. (n * c.from-2.result) * c.from-3.result) (c.from.ensures ∙ c.scan_mcus.ensures.wide)
    ∙ ap (λ n. (scan_mcus_across c.args.out.now ids * n) * c.from-3.result) (c.from-2.ensures ∙ c.mcu_units.ensures.value)
    ∙ ap (λ n. row_units c.args.out.now ids * n) (c.from-3.ensures ∙ c.rows_of_output.ensures.value)
