use Rattle.std.proofs.Common.{◌*◌, arith}
use Rattle.std.proofs.lemmas.List.Sums.{sum_by-drop_more}
use Rattle.jpg_base.proofs.Grids.{blocks_high}
use Rattle.jpg_base.proofs.frame_checks.all_blocks.Goals as goal

pub overflow_add-blocks : goal.overflow_add-blocks
overflow_add-blocks c =
    let most = blocks_high c.args.wide c.args.high c.args.components.now c.requires.wide c.requires.high c.requires.count c.requires.factors in
    let next =
    sum_by-drop_more (λ x. (c.args.wide * x.h) * (c.args.high * x.v)) c.args.components.now c.loop-component.component-index (record { id = 0; h = 0; v = 0; quant = 0 })
    c.loop-component-test.true
    in
    omega (arith, most, next, c.loop-component.invariant, c.component_blocks-blocks.ensures)
