use Rattle.std.proofs.Common.{◌≤◌, ℤ, List, All, nat_abs, ap, subst, sym, ◌∙◌}
use Rattle.jpg_spec_image.specs.Dct.{inverse_dct}
use Rattle.jpg_dct.proofs.Multiplied.{dequantised_bound}
use Rattle.jpg_dct.proofs.inverse.multipliers.large_samples.Goals as goal

pub idct-requires : goal.idct-requires
idct-requires c =
    subst (λ (xs : List ℤ). All (λ x. nat_abs x ≤ 67108864) xs) (sym c.long_products.ensures) (dequantised_bound c.args.quants.now c.args.given.now c.fits-quants c.requires)

pub returns : goal.returns
returns c = c.idct.ensures ∙ ap inverse_dct c.long_products.ensures
