use Rattle.std.proofs.Common.{◌∙◌, ap, rules, arith, get_or, pos}
use Rattle.std.specs.Prelude.{int_lt}
use mir.Syntax.{w16}
use mir.Val.{SFits, to_z, of_z}
use Rattle.std.proofs.lemmas.Int.{to_z-of_z}
use Rattle.jpg_spec_move.specs.Transforms.{signed}
use Rattle.jpg_transform.proofs.OneBlock.{step, all, value_at, changed, signed_block}
use Rattle.jpg_transform.proofs.signs.signed.Goals as goal

pub loop-k-preserved : goal.loop-k-preserved
loop-k-preserved c =
    let a = c.args.across in
    let b = c.args.down in
    let xs = c.args.block.now in
    let masks = c.masks-masks.result.now in
    let k = c.loop-k.k in
    let f : SFits w16 c.masked.result = search rules in
    let g : SFits w16 c.get.result = search rules in
    let m : SFits w16 (get_or masks k (pos 0)) = search rules in
    c.set.ensures.value
    ∙ step (signed a b xs) xs c.loop-k.turned k _ (signed_block a b xs c.long.ensures) c.long.ensures c.loop-k-test.true c.loop-k.invariant
    (to_z-of_z w16 c.masked.result f
    ∙ value_at a b masks xs k _ _ c.masks-masks.ensures c.long.ensures c.loop-k-test.true (to_z-of_z w16 (get_or masks k (pos 0)) m)
    (c.masked.ensures ∙ ap (λ v. changed (int_lt (to_z w16 (of_z w16 (get_or masks k (pos 0)))) (pos 0)) v) (to_z-of_z w16 c.get.result g ∙ c.get.ensures.value)))

pub returns : goal.returns
returns c = all _ c.args.block.now c.loop-k.turned c.loop-k.k (signed_block c.args.across c.args.down c.args.block.now c.long.ensures) c.long.ensures (omega arith) c.loop-k.invariant
