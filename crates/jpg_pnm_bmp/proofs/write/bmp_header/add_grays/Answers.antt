use Rattle.std.proofs.Common.{arith, ◌≡◌, ◌++◌, ◌∷◌, [], flat_map, ap, ◌∙◌}
use Rattle.jpg_spec.specs.Lists.{below}
use Rattle.jpg_spec_image.specs.ImageText.{palette}
use Rattle.jpg_pnm_bmp.proofs.write.bmp_header.add_grays.Goals as goal

pub returns : goal.returns
unfolding palette
returns c =
    let i = c.loop-gray.invariant in
    let all : c.loop-gray.gray ≡ 256 = omega (arith, i.most) in
    i.grays ∙ ap (λ n. c.args.part.now.items ++ flat_map (λ n. n ∷ n ∷ n ∷ 0 ∷ []) (below n)) all
