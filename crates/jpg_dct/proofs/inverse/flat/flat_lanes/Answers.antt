use Rattle.std.proofs.Common.{rules, ◌≡◌, pos, ◌+ℤ◌, to_z, of_z, FitsSigned, sym, ap, ◌∙◌}
use Rattle.std.specs.Prelude.{replicate}
use Rattle.std.specs.Int.{w32, int_shr}
use Rattle.std.proofs.lemmas.Int.{to_z-of_z}
use Rattle.jpg_spec_image.specs.Dct.{sample_of}
use Rattle.jpg_dct.proofs.OneCoefficient.{flat_is}
use Rattle.jpg_dct.proofs.inverse.flat.flat_lanes.Goals as goal

pub returns : goal.returns
returns c =
    let f : FitsSigned w32 c.args.dc = search rules in
    let dc : to_z w32 (of_z w32 c.args.dc) ≡ c.args.dc = to_z-of_z w32 c.args.dc f in
    ap (replicate 64) (c.sample.ensures ∙ ap (λ x. sample_of (int_shr (x +ℤ pos 4) 3)) dc) ∙ sym (flat_is c.args.dc)
