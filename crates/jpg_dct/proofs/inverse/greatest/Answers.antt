use Rattle.std.proofs.Common.{rules, ◌≡◌, slice_index_or, pos, nat_abs, FitsSigned, ap, ◌∙◌, arith}
use Rattle.std.specs.Int.{w32}
use Rattle.std.proofs.lemmas.Int.{to_z-of_z}
use Rattle.jpg_dct.proofs.Bounds.{greatest_step, greatest_all}
use Rattle.jpg_dct.proofs.inverse.greatest.Goals as goal

pub loop-value-preserved : goal.loop-value-preserved
loop-value-preserved c =
    let f : FitsSigned w32 (slice_index_or c.args.values.now c.loop-value.value-index (pos 0)) = search rules in
    let e : c.unsigned_abs.result ≡ nat_abs (slice_index_or c.args.values.now c.loop-value.value-index (pos 0)) = c.unsigned_abs.ensures.value ∙ ap nat_abs (to_z-of_z w32 _ f) in
    greatest_step c.args.values.now c.loop-value.value-index c.loop-value.greatest c.larger-greatest.result (search rules) c.loop-value.invariant (omega (arith, e, c.larger-greatest.ensures))

pub returns : goal.returns
returns c = greatest_all c.args.values.now c.loop-value.value-index c.loop-value.greatest (search rules) c.loop-value.invariant
