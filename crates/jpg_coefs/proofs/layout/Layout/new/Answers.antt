use Rattle.std.proofs.Common.{◌≤◌, length, refl, arith}
use Rattle.jpg_coefs.proofs.Laid.{laid_few, laid_next, laid_total}
use Rattle.jpg_coefs.proofs.layout.Layout.new.Goals as goal

pub loop-i-init : goal.loop-i-init
loop-i-init c = (refl, refl, refl, λ k h. absurd (omega (arith, h)), λ k h. absurd (omega (arith, h)))

pub overflow_mul-total : goal.overflow_mul-total
overflow_mul-total c =
    let i = c.loop-i in
    let b = laid_few c.args.frame.now c.args.order i.offsets i.strides i.total i.i c.padded-grid.result c.checked.ensures (omega (arith, c.loop-i-test.true, c.count-i-end.ensures.value)) i.invariant c.padded-grid.ensures.value in
    omega (arith, b)

pub overflow_add-total : goal.overflow_add-total
overflow_add-total c =
    let i = c.loop-i in
    let b = laid_few c.args.frame.now c.args.order i.offsets i.strides i.total i.i c.padded-grid.result c.checked.ensures (omega (arith, c.loop-i-test.true, c.count-i-end.ensures.value)) i.invariant c.padded-grid.ensures.value in
    omega (arith, b)

pub loop-i-preserved : goal.loop-i-preserved
loop-i-preserved c =
    let i = c.loop-i in
    laid_next c.args.frame.now c.args.order i.offsets i.strides i.total i.i c.line_length.result c.padded-grid.result c.checked.ensures (omega (arith, c.loop-i-test.true, c.count-i-end.ensures.value)) i.invariant
    c.padded-grid.ensures.value c.line_length.ensures

pub returns-clause-laid : goal.returns-clause-laid
returns-clause-laid c =
    let i = c.loop-i in
    let end : length c.args.frame.now.components ≤ i.i = omega (arith, i.auto.i-end, c.loop-i-test.false, c.count-i-end.ensures.value) in
    record {
      frame = c.checked.ensures;
      begins = λ k h. i.invariant.3 k (omega (arith, end, h));
      long = λ k h. i.invariant.4 k (omega (arith, end, h));
    }

pub returns-clause-count : goal.returns-clause-count
returns-clause-count c =
    let i = c.loop-i in
    laid_total c.args.frame.now c.args.order i.offsets i.strides i.total i.i (omega (arith, i.auto.i-end, c.loop-i-test.false, c.count-i-end.ensures.value)) i.invariant
