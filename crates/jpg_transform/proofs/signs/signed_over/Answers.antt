use Rattle.std.proofs.Common.{◌∙◌, ap, subst, sym, All, negsuc, ◌≤ℤ◌}
use Rattle.jpg_spec_move.specs.Transforms.{signed}
use Rattle.jpg_transform.proofs.OneBlock.{all_transposed}
use Rattle.jpg_transform.proofs.signs.signed_over.Goals as goal

pub signed-requires : goal.signed-requires
signed-requires c = subst (λ bs. All (λ v. negsuc 32766 ≤ℤ v) bs) (sym c.transposed.ensures.value) (all_transposed (λ v. negsuc 32766 ≤ℤ v) c.args.block.now c.transposed.ensures.long c.requires)

pub returns : goal.returns
returns c = c.signed.ensures ∙ ap (signed c.args.across c.args.down) c.transposed.ensures.value
