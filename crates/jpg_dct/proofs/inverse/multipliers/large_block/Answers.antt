use Rattle.std.proofs.Common.{rules, ◌≡◌, length, arith, ◌∙◌}
use Rattle.std.proofs.lemmas.List.{take_all}
use Rattle.jpg_dct.proofs.inverse.multipliers.large_block.Goals as goal

pub returns : goal.returns
returns c =
    let l : length c.large_samples.result ≡ 64 = search rules in
    take_all 64 c.large_samples.result (omega (arith, l)) ∙ c.large_samples.ensures
