use Rattle.std.proofs.Common.{rules, ◌≡◌, ◌≤◌, ◌<◌, ℤ, length, nat_abs, pos, to_z, of_z, FitsSigned, sym, ap, ◌∙◌, arith}
use Rattle.std.specs.Int.{w16, w32}
use Rattle.std.proofs.lemmas.Int.{to_z-of_z, fits_signed_from_abs}
use Rattle.std.proofs.lemmas.List.{length-set, ext_get_or}
use Rattle.jpg_spec_image.specs.Dct.{number_at}
use Rattle.jpg_dct.proofs.Eights.{fits16}
use Rattle.jpg_dct.proofs.Natural.{number_set}
use Rattle.jpg_dct.proofs.inverse.shortened.Goals as goal
use Rattle.jpg_spec_image.proofs.CodedBlocks.{all_at}

pub loop-n-preserved : goal.loop-n-preserved
loop-n-preserved c =
    let x : ℤ = number_at c.args.values.now c.loop-n.n in
    let few : nat_abs x ≤ 1090 = all_at (λ y. nat_abs y ≤ 1090) c.args.values.now c.loop-n.n (pos 0) c.requires (omega arith) in
    let f : FitsSigned w16 x = fits16 x (omega (arith, few)) in
    let g : FitsSigned w32 x = fits_signed_from_abs w32 x (omega (arith, few)) in
    let there : c.loop-n.n < length c.loop-n.short = omega (arith, c.loop-n.invariant.0, c.loop-n-test.true) in (
      length-set c.loop-n.short c.loop-n.n _ ∙ c.loop-n.invariant.0,
      number_set (number_at c.args.values.now) c.loop-n.short c.loop-n.n _ there c.loop-n.invariant.1 (ap (λ z. to_z w16 (of_z w16 z)) (to_z-of_z w32 x g) ∙ to_z-of_z w16 x f),
    )

pub returns : goal.returns
returns c =
    let long : length c.args.values.now ≡ 64 = search rules in
    ext_get_or (pos 0) c.loop-n.short c.args.values.now (c.loop-n.invariant.0 ∙ sym long)
    (λ k h. c.loop-n.invariant.1 k (omega (arith, h, c.loop-n.invariant.0, c.loop-n-test.false)))
