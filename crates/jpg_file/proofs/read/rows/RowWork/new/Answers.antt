use Rattle.std.proofs.Common.{◌*◌, ◌∙◌, ap, arith, refl}
use Rattle.jpg_spec.specs.Geometry.{scan_mcus_across}
use Rattle.jpg_spec.specs.Segments.{head_components}
use Rattle.jpg_file.proofs.ByRow.RowTurns.{first_in, first_unfinished, no_tops, some_rows}
use Rattle.jpg_file.proofs.read.rows.RowWork.new.Goals as goal

pub overflow_sub-result : goal.overflow_sub-result
overflow_sub-result c = omega (arith, c.scan_mcus-mcus.ensures.high, some_rows c.args.frame.now (head_components c.args.head.now) c.checked.ensures c.requires.there)

pub returns-clause-at : goal.returns-clause-at
returns-clause-at c =
    let f = c.args.frame.now in
    let ids = head_components c.args.head.now in
    let size = ap (λ n. n * c.from-2.result) (c.from.ensures ∙ c.scan_mcus-mcus.ensures.wide) ∙ ap (λ n. scan_mcus_across f ids * n) (c.from-2.ensures ∙ c.mcu_units.ensures.value) in
    first_in f ids _ c.checked.ensures c.requires.there c.requires.all no_tops c.steps_of.ensures size refl (omega (arith, c.scan_mcus-mcus.ensures.high, some_rows f ids c.checked.ensures c.requires.there))

pub returns-clause-count : goal.returns-clause-count
returns-clause-count c =
    let f = c.args.frame.now in
    let ids = head_components c.args.head.now in
    let size = ap (λ n. n * c.from-2.result) (c.from.ensures ∙ c.scan_mcus-mcus.ensures.wide) ∙ ap (λ n. scan_mcus_across f ids * n) (c.from-2.ensures ∙ c.mcu_units.ensures.value) in
    first_unfinished f ids _ _ _ c.checked.ensures c.requires.there size refl (omega (arith, c.scan_mcus-mcus.ensures.high, some_rows f ids c.checked.ensures c.requires.there))
