use Rattle.std.proofs.Common.{rules, ◌≡◌, to_z, of_z, FitsSigned, ◌∙◌, pos, refl}
use Rattle.std.specs.Int.{w16}
use Rattle.std.proofs.lemmas.Int.{to_z-of_z}
use Rattle.std.proofs.lemmas.List.{length-set, get_or-replicate}
use Rattle.jpg_color.proofs.BlockNumbers.{number_step, zeros_step, ten_done}
use Rattle.jpg_color.proofs.decode.blocks.first_ten.Goals as goal

pub loop-k-init : goal.loop-k-init
loop-k-init c = (refl, refl, λ n le lt. get_or-replicate 64 n (pos 0) (pos 0) lt)

pub loop-k-preserved : goal.loop-k-preserved
loop-k-preserved c =
    let f : FitsSigned w16 c.get.result = search rules in
    let is : to_z w16 (of_z w16 c.get.result) ≡ c.get.result = to_z-of_z w16 c.get.result f in (
      length-set c.loop-k.values c.loop-k.k (to_z w16 (of_z w16 c.get.result)) ∙ c.loop-k.invariant.0,
      number_step c.args.block.now c.loop-k.values c.loop-k.k _ c.loop-k.invariant.0 c.get.ensures.long (search rules) c.loop-k.invariant.1 (is ∙ c.get.ensures.value),
      zeros_step c.loop-k.values c.loop-k.k _ c.loop-k.invariant.2,
    )

pub returns-clause-value : goal.returns-clause-value
returns-clause-value c =
    ten_done c.args.block.now c.loop-k.values c.loop-k.k c.loop-k.invariant.0 c.long.ensures (search rules) c.loop-k.invariant.1 c.loop-k.invariant.2 c.requires
