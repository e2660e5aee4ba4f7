use Rattle.std.proofs.Common.{◌<◌, ◌^◌, ap, sym, subst, ◌∙◌, rules}
use mir.Syntax.{w32}
use Rattle.std.specs.Prelude.{nat_abs}
use Rattle.std.proofs.lemmas.Int.{to_z-of_z}
use Rattle.jpg_spec.specs.Numbers.{digits}
use Rattle.jpg_spec.proofs.Basics.Facts.{below_digits}
use Rattle.jpg_huff.proofs.Categories.{shifted_fits}
use Rattle.jpg_huff.proofs.number.extra_bits.Goals as goal

pub overflow_sub-below-2 : goal.overflow_sub-below-2
overflow_sub-below-2 c = shifted_fits c.unsigned_abs-magnitude.result c.binary_digits.result c.from.result c.from.ensures c.binary_digits.ensures.digits c.binary_digits.ensures.fits

pub returns-then-value-ge0-clause-fits : goal.returns-then-value-ge0-clause-fits
returns-then-value-ge0-clause-fits c =
    let e = to_z-of_z w32 c.args.value (search rules) in
    subst (λ m. m < 2 ^ digits (nat_abs c.args.value)) (sym (c.unsigned_abs-magnitude.ensures.value ∙ ap nat_abs e)) (below_digits (nat_abs c.args.value))
